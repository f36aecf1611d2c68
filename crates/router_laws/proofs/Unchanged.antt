-- What stays as it was, where an event changes nothing or is silent.
use Rattle.std.specs.Prelude.{◌≡◌, ℕ, not, Bool, true, false, cond, T, List, [], ◌∷◌, Option, Some, None, Ok, is_none, is_some}
use Rattle.std.specs.Cmp.{nat_cmp_total}
use Rattle.std.specs.FinMap.Entries.{find}
use Rattle.std.specs.Option.{option_map_or}
use Rattle.std.specs.Ordering.{nat_cmp}
use Rattle.std.proofs.Common.{refl, sym, ap, subst, ◌∙◌}
use Rattle.std.proofs.lemmas.Bool.{cond_both}
use Rattle.rsvp_contents.specs.declared.messages.Path.{Path}
use Rattle.sorted_rows.specs.RowsLaws.{is_some-find_both, is_sorted-both, put-found}
use Rattle.lsr_facts.specs.Routers.{HasLink, IsRouter, link_at}
use Rattle.lsr_facts.specs.declared.facts.Facts.{Facts}
use Rattle.lsr_facts.specs.declared.key.Key.{Key}
use Rattle.lsr_facts.specs.declared.path_fact.PathFact.{PathFact}
use Rattle.lsr_facts.specs.declared.refusal.Refusal.TheVariants.{NoMatch, UnknownLink}
use Rattle.lsr_facts.specs.declared.reply.Reply.TheVariants as replies
use Rattle.lsr_facts.specs.declared.router.Router.{Router}
use Rattle.abstract_paths.specs.declared.events.Event.TheVariants as events
use Rattle.abstract_paths.specs.declared.events.Made.{Made}
use Rattle.abstract_paths.specs.declared.ways.Relay.{Relay}
use Rattle.abstract_paths.specs.Changes.{with_link}
use Rattle.abstract_paths.specs.Links.{link_change}
use Rattle.abstract_paths.specs.Outcomes as paths
use Rattle.abstract_paths.specs.Paths.{is_same_route, way_for, way_of}
use Rattle.abstract_paths.specs.Places.{Place, is_up, place_of}
use Rattle.abstract_paths.specs.Relays.{relay, relayed_by}
use Rattle.abstract_paths.specs.Restarts.{all_cancelled, started}
use Rattle.abstract_paths.specs.Routing.{next_hop, route_to}
use Rattle.abstract_paths.specs.Soundness.{IsStanding}
use Rattle.router_soundness.specs.Assigned.{AreStanding}
use Rattle.abstract_router.specs.Arrivals.{lost, outcome}
use Rattle.abstract_router.specs.Outcomes.{of_paths, replied}
use Rattle.abstract_router.specs.Soundness.{IsSound}
use Rattle.abstract_router.specs.States.{State, bare}
use Rattle.abstract_router.specs.Steps.{AreSettled, Step, known_after}
use Rattle.router_laws.specs.Words.{link_event}
use Rattle.router_laws.proofs.Led.{answered, led, sends}
use Rattle.router_laws.proofs.Still.{done-still, known-same, still_step}

-- a link that is known is found as it is
found_so : (o : Option Bool) (so : Bool) → is_some o ≡ true → option_map_or (λ is. is) o false ≡ so → o ≡ Some so
found_so None so some is = absurd (let e = some in cc)
found_so (Some b) so some is = ap Some is

link_found : (r : Router) (s : Facts) (number : ℕ) (so : Bool) → IsStanding r s → HasLink r number → is_up s.up number ≡ so → find nat_cmp number s.up ≡ Some so
unfolding is_up link_at
link_found r s number so is there up = found_so (find nat_cmp number s.up) so (is_some-find_both nat_cmp number s.up r.links is.links ∙ there) up

-- a link that is so already stays
link_stays : (r : Router) (s : Facts) (number : ℕ) (so : Bool) → IsRouter r → IsStanding r s → HasLink r number → is_up s.up number ≡ so → link_change r s number so ≡ paths.done [] s
unfolding link_change
link_stays r s number so router is there up =
    let in_order = subst T (sym (is_sorted-both nat_cmp s.up r.links is.links)) router.in_order in
    let stays = put-found nat_cmp nat_cmp_total number so s.up in_order (link_found r s number so is there up) in
    ap (λ b. cond (not b) (paths.refused s UnknownLink) (paths.done [] (with_link number so s))) there ∙ (λ i. paths.done [] (record s { up = stays i }))

-- what a link's event does
event_changes : (r : Router) (s : State) (number : ℕ) (so : Bool) → outcome r s (link_event number so) ≡ of_paths s (link_change r s.facts number so)
event_changes r s number true = refl
event_changes r s number false = refl

-- A link that is so already stays, and nothing is sent.
pub link_repeats : (r : Router) (before after : State) (made : Made) (number : ℕ) (so : Bool) → IsRouter r → IsSound r before → AreSettled r before → AreStanding r before → HasLink r number → is_up before.facts.up number ≡ so → Step r before made after → made.event ≡ link_event number so → (made.reply ≡ replies.Done) × (made.outputs ≡ []) × (after ≡ before)
link_repeats r before after made number so router sound rests stand there up x is =
    still_step r before after made (link_event number so) (replied replies.Done [] before) x is
    (event_changes r before number so ∙ ap (of_paths before) (link_stays r before.facts number so router sound.paths there up)) (done-still r before sound rests stand)

-- The way of a path is kept where the explicit route is the same.
pub way_kept : (n : Place) (fact : PathFact) (p : Path) → is_same_route fact.given p.route ≡ true → way_for n (Some fact) p ≡ Ok (way_of fact)
unfolding way_for
way_kept n fact p same = ap (λ b. cond b (Ok (way_of fact)) (next_hop n p.route p.session.endpoint)) same

-- A restart.
pub restart_rest : (r : Router) (before after : State) (made : Made) → Step r before made after → made.event ≡ events.Restart
    → (made.reply ≡ replies.Done) × (made.outputs ≡ []) × (after ≡ bare (record before.facts { cold = true; tunnels = all_cancelled before.facts.tunnels; paths = []; sent = [] }))
restart_rest r before after made x is =
    let o = lost before in
    (answered r before after made events.Restart o x is refl, sends r before after made events.Restart o x is refl, led r before after made events.Restart o x is refl)

-- A start.
pub start_rest : (r : Router) (before after : State) (made : Made) → Step r before made after → made.event ≡ events.Start → (made.reply ≡ replies.Done) × (made.outputs ≡ []) × (after ≡ record before { facts = record before.facts { cold = false } })
start_rest r before after made x is =
    let o = of_paths before (started before.facts) in
    (answered r before after made events.Start o x is refl, sends r before after made events.Start o x is refl, led r before after made events.Start o x is refl)

-- A message for another router.
relay_kept : (r : Router) (s : State) (labels : List (Key × ℕ)) (m : Relay) → IsSound r s → AreSettled r s → AreStanding r s → known_after r s labels (of_paths s (relay r s.facts m)) ≡ s
unfolding relay
relay_kept r s labels m sound rests stand =
    cond_both (is_none (link_at r m.link)) _ _ Kept (λ none. refl)
    (λ there. cond_both (not (is_up s.facts.up m.link)) _ _ Kept (λ down. refl) (λ up. by (route_to (place_of r s.facts) m.to)))
  where
    Kept : paths.PathOutcome → Type 0
    Kept o = known_after r s labels (of_paths s o) ≡ s

    by : (way : Option ℕ) → Kept (option_map_or (λ link. paths.done (relayed_by m link ∷ []) s.facts) way (paths.refused s.facts NoMatch))
    by None = refl
    by (Some link) = known-same r s sound rests stand replies.Done (relayed_by m link ∷ []) labels

pub relay_rest : (r : Router) (before after : State) (made : Made) (m : Relay) → IsSound r before → AreSettled r before → AreStanding r before → Step r before made after → made.event ≡ events.Relay m → after ≡ before
relay_rest r before after made m sound rests stand x is = led r before after made (events.Relay m) (of_paths before (relay r before.facts m)) x is refl ∙ relay_kept r before made.labels m sound rests stand

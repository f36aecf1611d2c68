-- Whatever an event does to paths, links and time leaves them as they should be: each by its few primitives.
use Rattle.std.proofs.Common.{refl, ap, sym, subst, ◌∙◌, arith}
use Rattle.std.proofs.lemmas.Bool.{and_parts, both_ways, cond_both, false_from_ne_true, false≢true, ltb-false, not-false}
use Rattle.std.proofs.lemmas.Cmp.{nat_cmp_total}
use Rattle.std.specs.FinMap.Entries.{find, is_sorted-put, put, where_key}
use Rattle.std.specs.Option.{option_map_or}
use Rattle.std.specs.Ordering.{is_eq, nat_cmp}
use Rattle.std.specs.Prelude.{◌≡◌, ℕ, ◌≤◌, Bool, true, false, not, ◌&&◌, ◌==◌, nat_le, nat_lt, ◌^◌, IsTrue, List, [], ◌∷◌, filter, length, Option, Some, None, is_none, option_map, Result, Ok, Err, IfSome}
use Rattle.std.specs.declared.net.ipv4_addr.Ipv4Addr.{Ipv4Addr}
use Rattle.abstract_paths.proofs.Apart.{apart_put, came-hop, came-left}
use Rattle.abstract_paths.proofs.Bypasses.{bypasses_tunnel_put}
use Rattle.abstract_paths.proofs.Merging.{came-elsewhere, joined-found, joined_apart, joined_sound, none_of_head, stack_path_by, stack_tear_by}
use Rattle.abstract_paths.proofs.NextHops.{Leads, IsPlace, next_hop-leads}
use Rattle.abstract_paths.proofs.Heads.{head_known, heads_noted, heads_same, same_keys}
use Rattle.abstract_paths.proofs.PathTable.{IsTaken, way_of-leads, path_sound, path_left_sound, path_known, put_few, role_of-elsewhere}
use Rattle.abstract_paths.proofs.Pending.{pending_same}
use Rattle.abstract_paths.proofs.Primitives.{sound_with_path, sound_where, sound_expire, sound_with_link}
use Rattle.abstract_paths.proofs.Signalling.{signalled-stands}
use Rattle.abstract_paths.proofs.TunnelTable.{noted_stands, tunnel_known, tunnels_put_known}
use Rattle.abstract_paths.specs.Changes.{with_path, with_tunnel}
use Rattle.abstract_paths.specs.Heads.{noted, with_noted}
use Rattle.abstract_paths.specs.Links.{link_change}
use Rattle.abstract_paths.specs.Merging.{came_through, may_join, other_stacks, stack_path_arrival, stack_path_failed, stack_tear_arrival, with_stack}
use Rattle.abstract_paths.specs.MessageLaws.{tspec-whole}
use Rattle.abstract_paths.specs.Outcomes.{PathOutcome, done, lsp, refused}
use Rattle.abstract_paths.specs.Paths.{key_of, is_same_route, way_of, way_for, path_by, has_loop, failed, taken, path_on_its_way, path_arrival}
use Rattle.abstract_paths.specs.Places.{is_up, place_of}
use Rattle.abstract_paths.specs.Relays.{relay, relayed_by}
use Rattle.abstract_paths.specs.Routing.{next_hop, route_to}
use Rattle.abstract_paths.specs.Soundness.{IsHeadOf, IsPath, IsStanding, asked_of}
use Rattle.abstract_paths.specs.Tears.{err_of_path, is_from, is_torn_by, leaves_by, left_with, origins_without, torn, path_err_passed_on}
use Rattle.abstract_paths.specs.Time.{tick}
use Rattle.lsr_facts.specs.Errors.{system_error}
use Rattle.lsr_facts.specs.Lifetimes.{begins_here, expire}
use Rattle.lsr_facts.specs.Orders.{address_cmp, key_cmp}
use Rattle.lsr_facts.specs.Routers.{HasLink, IsRouter, link_at}
use Rattle.lsr_facts.specs.Tunnels.{is_head}
use Rattle.lsr_facts.specs.declared.choice.Choice.{Choice}
use Rattle.lsr_facts.specs.declared.errors.RsvpError.{RsvpError}
use Rattle.lsr_facts.specs.declared.facts.Facts.{Facts}
use Rattle.lsr_facts.specs.declared.key.Key.{Key}
use Rattle.lsr_facts.specs.declared.path_fact.Origin.{Origin}
use Rattle.lsr_facts.specs.declared.path_fact.PathFact.{PathFact}
use Rattle.lsr_facts.specs.declared.refusal.Refusal.TheVariants.{BadMoment, Late, LinkDown, NoMatch, UnknownLink}
use Rattle.lsr_facts.specs.declared.router.Router.{Router}
use Rattle.lsr_facts.specs.declared.tunnel.Tunnel.{Tunnel}
use Rattle.abstract_paths.specs.declared.ways.Relay.{Relay}
use Rattle.rsvp_contents.proofs.Fitted.{message_fits}
use Rattle.rsvp_contents.specs.Fitting.{fits_path, written_len}
use Rattle.rsvp_contents.specs.Spelling.{IsMessage}
use Rattle.rsvp_contents.specs.declared.messages.Content.TheVariants as contents
use Rattle.rsvp_contents.specs.declared.messages.Path.{Path}
use Rattle.rsvp_contents.specs.declared.messages.PathErr.{PathErr}
use Rattle.rsvp_contents.specs.declared.messages.PathTear.{PathTear}
use Rattle.rsvp_objects.specs.declared.values.ErrorSpec.{ErrorSpec}
use Rattle.rsvp_bodies.specs.TokenBuckets.{token_rate}

-- What an outcome leaves of paths, links, routes and time is as it should be.
abbrev pub LeavesStanding : Router → PathOutcome → Type 0
LeavesStanding r o = IsStanding r o.after

-- the parts of a Path that is a message fit
pub path_fits : (p : Path) → IsMessage (contents.Path p) → IsTrue (fits_path p)
path_fits p is = (and_parts (fits_path p) (nat_le (written_len (contents.Path p)) 4096) (message_fits (contents.Path p) is)).0

-- a router's place can be
place_sound : (r : Router) (s : Facts) → IsRouter r → IsStanding r s → IsPlace (place_of r s)
place_sound r s router is = record { router = router; routes = is.routes }

-- The way of a Path leads on, be it that of the path which is known or the next hop.
way_for-leads : (r : Router) (s : Facts) (known : Option PathFact) (p : Path) → IsRouter r → IsStanding r s → IfSome known (λ fact. IsPath r s.moment (key_of p, fact)) → IsTrue (fits_path p) → Leads r (way_for (place_of r s) known p)
unfolding way_for
way_for-leads r s None p router is knows whole = next_hop-leads (place_of r s) p.route p.session.endpoint (place_sound r s router is) (and_parts _ _ whole).0
way_for-leads r s (Some fact) p router is knows whole =
    cond_both (is_same_route fact.given p.route) (Ok (way_of fact)) (next_hop (place_of r s) p.route p.session.endpoint) (Leads r)
    (λ same. way_of-leads r s.moment (key_of p, fact) knows)
    (λ other. next_hop-leads (place_of r s) p.route p.session.endpoint (place_sound r s router is) (and_parts _ _ whole).0)

-- a Path whose way was asked for
path_on_its_way-stands : (r : Router) (s : Facts) (link : ℕ) (p : Path) (way : Result Choice RsvpError) → s.cold ≡ false → IsStanding r s → is_head r s.tunnels (key_of p) ≡ false → IsTaken r link p → Leads r way → LeavesStanding r (path_on_its_way r s (find key_cmp (key_of p) s.paths) link p way)
unfolding path_on_its_way
path_on_its_way-stands r s link p (Err e) runs is other can leads = is
path_on_its_way-stands r s link p (Ok way) runs is other can leads =
    let known = find key_cmp (key_of p) s.paths in
    cond_both (is_none known && nat_le 1024 (length s.paths)) (failed r s link p system_error) (taken r s known link p way) (LeavesStanding r)
    (λ full. is)
    (λ room.
    sound_with_path r s (key_of p) (path_by s.moment known link p way) runs is
    (path_sound r s.moment known link p way can (path_known r s.moment (key_of p) s.paths is.paths) leads)
    (role_of-elsewhere way ∙ sym other)
    (put_few (key_of p) (path_by s.moment known link p way) s.paths is.paths.in_order is.paths.few room)
    (apart_put (key_of p) (path_by s.moment known link p way) s.paths (λ message came. came-hop message (key_of p) s.moment known link p way s.paths refl came) is.paths.apart)
    (λ head. absurd (both_ways _ other head)))

-- a Path that is read whole
pub path_arrival-stands : (r : Router) (s : Facts) (link : ℕ) (p : Path) → IsRouter r → s.cold ≡ false → IsStanding r s → HasLink r link → IsTrue (fits_path p) → LeavesStanding r (path_arrival r s link p)
unfolding path_arrival
path_arrival-stands r s link p router runs is there whole =
    let known = find key_cmp (key_of p) s.paths in
    let knows = path_known r s.moment (key_of p) s.paths is.paths in
    cond_both (is_head r s.tunnels (key_of p)) _ _ (LeavesStanding r) (λ head. is)
    (λ elsewhere.
    cond_both (not (p.label_request.l3pid == 0x0800)) _ _ (LeavesStanding r) (λ other. is)
    (λ carries.
    cond_both (is_none (token_rate 1 p.tspec)) _ _ (LeavesStanding r) (λ none. is)
    (λ rate.
    cond_both (has_loop r p.recorded) _ _ (LeavesStanding r) (λ loops. is)
    (λ straight.
    path_on_its_way-stands r s link p (way_for (place_of r s) known p) runs is elsewhere
    (record { over_link = there; fits = whole; whole_tspec = tspec-whole p.tspec (not-false _ rate) })
    (way_for-leads r s known p router is knows whole)))))

-- a path that is known begins here where its LSP is a tunnel's
known_begins : (r : Router) (s : Facts) (key : Key) (fact : PathFact) → IsStanding r s → find key_cmp key s.paths ≡ Some fact → IsHeadOf r s.tunnels (key, fact)
known_begins r s key fact is found = subst (λ (known : Option PathFact). IfSome known (λ f. IsHeadOf r s.tunnels (key, f))) found (head_known r s.tunnels key s.paths is.heads)

-- there is room for another in its place
known_few : (r : Router) (s : Facts) (key : Key) (old fact : PathFact) → IsStanding r s → find key_cmp key s.paths ≡ Some old → length (put key_cmp key fact s.paths) ≤ 1024
known_few r s key old fact is found =
    put_few key fact s.paths is.paths.in_order is.paths.few (ap (λ known. is_none known && nat_le 1024 (length s.paths)) found)

-- a path that doesn't begin here is left with some origins, or with none
pub left_with-stands : (r : Router) (s : Facts) (key : Key) (fact : PathFact) (p : Ipv4Addr → Bool) (origins : List (Ipv4Addr × Origin)) → s.cold ≡ false → IsStanding r s → IfSome (find key_cmp key s.paths) (λ known. IsPath r s.moment (key, known)) → find key_cmp key s.paths ≡ Some fact → begins_here fact.role ≡ false → where_key address_cmp p fact.origins ≡ origins → IsStanding r (left_with key fact origins s)
left_with-stands r s key fact p [] runs is knows found elsewhere left = sound_where r s (λ k. not (is_eq (key_cmp key k))) is keeps
  where
    other : is_head r s.tunnels key ≡ false
    other = sym (known_begins r s key fact is found) ∙ elsewhere

    keeps : (q : Key) → is_head r s.tunnels q ≡ true → not (is_eq (key_cmp key q)) ≡ true
    keeps q head = ap not (false_from_ne_true (is_eq (key_cmp key q)) (λ tie. both_ways _ other (ap (is_head r s.tunnels) (same_keys key q tie) ∙ head)))
left_with-stands r s key fact p (o ∷ os) runs is knows found elsewhere left =
    let path : IsPath r s.moment (key, fact) = subst (λ (known : Option PathFact). IfSome known (λ f. IsPath r s.moment (key, f))) found knows in
    let some : 1 ≤ length (where_key address_cmp p fact.origins) = subst (λ (xs : List (Ipv4Addr × Origin)). 1 ≤ length xs) (sym left) (omega arith) in
    let after : IsPath r s.moment (key, record fact { origins = o ∷ os }) =
    subst (λ (xs : List (Ipv4Addr × Origin)). IsPath r s.moment (key, record fact { origins = xs })) left (path_left_sound r s.moment key fact p some path) in
    sound_with_path r s key (record fact { origins = o ∷ os }) runs is after (known_begins r s key fact is found) (known_few r s key fact (record fact { origins = o ∷ os }) is found)
    (apart_put key (record fact { origins = o ∷ os }) s.paths
    (λ message came. (fact, found, came-left message key fact (λ origin. p origin.0) path.origins.in_order (subst (λ (xs : List (Ipv4Addr × Origin)). came_through message (key, record fact { origins = xs }) ≡ true) (sym left) came)))
    is.paths.apart)
    (λ head. sym (ap (option_map asked_of) found))

-- a path of which a PathTear takes an origin doesn't begin here
torn-elsewhere : (r : Router) (moment : ℕ) (key : Key) (link : ℕ) (t : PathTear) (fact : PathFact) → IsPath r moment (key, fact) → is_torn_by link t fact ≡ true → begins_here fact.role ≡ false
torn-elsewhere r moment key link t fact is matches =
    false_from_ne_true (begins_here fact.role) (λ begins.
    absurd (false≢true (subst (λ (origins : List (Ipv4Addr × Origin)). option_map_or (is_from link t.hop.address) (find address_cmp t.sender.sender origins) false ≡ true) (none_of_head fact.role fact.origins is.origins.count begins) matches)))

-- a PathTear
pub torn-stands : (r : Router) (s : Facts) (link : ℕ) (t : PathTear) (known : Option PathFact) → s.cold ≡ false → IsStanding r s → find key_cmp (lsp t.session t.sender) s.paths ≡ known → LeavesStanding r (torn s link t known)
torn-stands r s link t None runs is found = is
torn-stands r s link t (Some fact) runs is found =
    cond_both (is_torn_by link t fact) _ (refused s NoMatch) (LeavesStanding r)
    (λ matches.
    let knows = path_known r s.moment (lsp t.session t.sender) s.paths is.paths in
    let path : IsPath r s.moment (lsp t.session t.sender, fact) = subst (λ (known : Option PathFact). IfSome known (λ f. IsPath r s.moment (lsp t.session t.sender, f))) found knows in
    left_with-stands r s (lsp t.session t.sender) fact (λ k. not (is_eq (address_cmp t.sender.sender k))) (origins_without t.sender.sender fact) runs is knows found
    (torn-elsewhere r s.moment (lsp t.session t.sender) link t fact path matches) refl)
    (λ other. is)

-- an error that is noted in the tunnel of a number, if there is one
pub with_noted-stands : (r : Router) (s : Facts) (e : ErrorSpec) (number : ℕ) → IsStanding r s → IsStanding r (with_noted e number s)
with_noted-stands r s e number is = by (find nat_cmp number s.tunnels) refl
  where
    by : (known : Option Tunnel) → find nat_cmp number s.tunnels ≡ known → IsStanding r (option_map_or (λ t. with_tunnel number (noted e t) s) known s)
    by None found = is
    by (Some t) found = record {
      moment = is.moment;
      links = is.links;
      routes = is.routes;
      tunnels = tunnels_put_known r number t (noted e t) s.tunnels is.tunnels found (noted_stands r e (number, t) (tunnel_known r number t s.tunnels is.tunnels found));
      bypasses = bypasses_tunnel_put r s.tunnels s.bypasses number t (noted e t) found (λ capacity carry. carry) is.bypasses;
      paths = is.paths;
      heads = heads_same r s.tunnels (put nat_cmp number (noted e t) s.tunnels) s.paths (heads_noted r number s.tunnels t found e) is.heads;
      pending = pending_same r s.tunnels s.paths is.pending number t (noted e t) (is_sorted-put nat_cmp nat_cmp_total number (noted e t) s.tunnels is.tunnels.in_order) found refl refl;
      cold = is.cold;
    }

-- a PathErr that is for a path's LSP
pub err_of_path-stands : (r : Router) (s : Facts) (key : Key) (e : PathErr) (fact : PathFact) → IsStanding r s → LeavesStanding r (err_of_path r s key e fact)
err_of_path-stands r s key e fact is = cond_both (begins_here fact.role) (with_noted e.error e.session.tunnel s) s (IsStanding r) (λ begins. with_noted-stands r s e.error e.session.tunnel is) (λ elsewhere. is)

-- a PathErr
pub path_err_passed_on-stands : (r : Router) (s : Facts) (link : ℕ) (e : PathErr) (known : Option PathFact) → IsStanding r s → LeavesStanding r (path_err_passed_on r s link e known)
path_err_passed_on-stands r s link e None is = is
path_err_passed_on-stands r s link e (Some fact) is =
    cond_both (leaves_by link fact) _ (refused s NoMatch) (LeavesStanding r) (λ leaves. err_of_path-stands r s (lsp e.session e.sender) e fact is) (λ other. is)

-- a Path that comes through a stack
pub stack_path-stands : (r : Router) (s : Facts) (p : Path) → s.cold ≡ false → IsStanding r s → LeavesStanding r (stack_path_arrival s p)
stack_path-stands r s p runs is = stack_path_by (LeavesStanding r) s p is (λ path only room. joins path only room)
  where
    joins : (path : Key × PathFact) → filter (may_join (key_of p)) s.paths ≡ path ∷ [] → nat_le 3 (length (other_stacks p.sender.sender path.1)) ≡ false → IsStanding r (with_path path.0 (with_stack s.moment p path.1) s)
    joins path only room =
        let found = joined-found s.paths p path only is.paths.in_order in
        sound_with_path r s path.0 (with_stack s.moment p path.1) runs is (joined_sound r s.moment s.paths is.paths p path only room) (known_begins r s path.0 path.1 is found)
        (known_few r s path.0 path.1 (with_stack s.moment p path.1) is found)
        (joined_apart r s.moment s.paths is.paths p path only)
        (λ head. sym (ap (option_map asked_of) found))

-- and one with an error
pub stack_path_failed-stands : (r : Router) (s : Facts) (p : Path) (e : RsvpError) → IsStanding r s → LeavesStanding r (stack_path_failed r s p e)
stack_path_failed-stands r s p e is = is

-- a PathTear that comes through a stack
pub stack_tear-stands : (r : Router) (s : Facts) (t : PathTear) → s.cold ≡ false → IsStanding r s → LeavesStanding r (stack_tear_arrival s t)
stack_tear-stands r s t runs is =
    stack_tear_by (LeavesStanding r) s t is.paths.in_order is
    (λ path found came.
    let knows = path_known r s.moment path.0 s.paths is.paths in
    let its : IsPath r s.moment path = subst (λ (known : Option PathFact). IfSome known (λ f. IsPath r s.moment (path.0, f))) found knows in
    left_with-stands r s path.0 path.1 (λ k. not (is_eq (address_cmp t.sender.sender k))) (origins_without t.sender.sender path.1) runs is knows found
    (came-elsewhere r s.moment (lsp t.session t.sender) path its came) refl)

-- a message for another router
pub relay-stands : (r : Router) (s : Facts) (m : Relay) → IsStanding r s → LeavesStanding r (relay r s m)
unfolding relay
relay-stands r s m is =
    cond_both (is_none (link_at r m.link)) (refused s UnknownLink) _ (LeavesStanding r) (λ none. is)
    (λ there.
    cond_both (not (is_up s.up m.link)) (refused s LinkDown) _ (LeavesStanding r) (λ down. is)
    (λ up. by (route_to (place_of r s) m.to)))
  where
    by : (way : Option ℕ) → LeavesStanding r (option_map_or (λ link. done (relayed_by m link ∷ []) s) way (refused s NoMatch))
    by None = is
    by (Some link) = is

-- a link that comes up or goes down
pub link_change-stands : (r : Router) (s : Facts) (number : ℕ) (up : Bool) → IsRouter r → IsStanding r s → LeavesStanding r (link_change r s number up)
unfolding link_change
link_change-stands r s number up router is =
    cond_both (is_none (link_at r number)) (refused s UnknownLink) _ (LeavesStanding r) (λ none. is) (λ there. sound_with_link r s number up router is (not-false _ there))

-- a moment that comes, to a router that runs
pub tick-stands : (r : Router) (s : Facts) (n : ℕ) → IsRouter r → s.cold ≡ false → IsStanding r s → LeavesStanding r (tick r s n)
unfolding tick
tick-stands r s n router runs is =
    cond_both (nat_lt (2 ^ 62) n) (refused s BadMoment) _ (LeavesStanding r) (λ above. is)
    (λ most.
    cond_both (nat_lt n s.moment) (refused s Late) _ (LeavesStanding r) (λ below. is)
    (λ later. signalled-stands r (record s { moment = n; paths = expire n s.paths }) router runs (sound_expire r s n is (ltb-false n s.moment later) (ltb-false (2 ^ 62) n most))))

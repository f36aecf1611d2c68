-- Of a Resv that is done each descriptor is granted that isn't passed over, and what its LSP has then it keeps, or its loss is told.
use Rattle.std.specs.Prelude.{◌≡◌, ◌⊎◌, ℕ, ◌||◌, not, Bool, true, false, if◌then◌else◌, List, [], ◌∷◌, fold, Option, Some, None, Result, Ok, Err, find as find_first, is_none, is_some}
use Rattle.std.specs.FinMap.Entries.{find}
use Rattle.std.specs.List.{AllByRecursion, Contains, list_any}
use Rattle.std.specs.Option.{option_map_or, option_or}
use Rattle.std.proofs.Common.{refl, sym, ap, subst, ◌∙◌, inl, inr, ⊎_elim}
use Rattle.std.proofs.lemmas.Bool.{cond_both, not-false}
use Rattle.std.proofs.lemmas.List.Elements.{All-contains_itself, recursion_from_All}
use Rattle.rsvp_bodies.specs.Traffic.{flowspec_rate}
use Rattle.rsvp_bodies.specs.declared.traffic_fault.TrafficFault.{TrafficFault}
use Rattle.rsvp_contents.specs.declared.messages.Content.TheVariants as contents
use Rattle.rsvp_contents.specs.declared.messages.Resv.{Resv}
use Rattle.rsvp_contents.specs.declared.descriptors.FlowDescriptor.{FlowDescriptor}
use Rattle.label_space.specs.LineLaws.{Contains-cons_cases, none_contained}
use Rattle.lsr_facts.specs.Claims.{is_same_session}
use Rattle.lsr_facts.specs.Conflicts.{conflicts}
use Rattle.lsr_facts.specs.Errors.{no_bandwidth, no_path, no_sender, style_conflict, unacceptable_label, unknown_style}
use Rattle.lsr_facts.specs.Orders.{key_cmp}
use Rattle.lsr_facts.specs.Reservations.{style_of}
use Rattle.lsr_facts.specs.Routers.{link_at}
use Rattle.lsr_facts.specs.declared.errors.RsvpError.{RsvpError}
use Rattle.lsr_facts.specs.declared.facts.Facts.{Facts}
use Rattle.lsr_facts.specs.declared.key.Key.{Key}
use Rattle.lsr_facts.specs.declared.path_fact.PathFact.{PathFact}
use Rattle.lsr_facts.specs.declared.refusal.Refusal.TheVariants.{LinkDown, NoMatch, UnknownLink}
use Rattle.lsr_facts.specs.declared.repair.Repair.{Repair}
use Rattle.lsr_facts.specs.declared.reply.Reply.TheVariants as replies
use Rattle.lsr_facts.specs.declared.resv_fact.ResvFact.{ResvFact}
use Rattle.lsr_facts.specs.declared.resv_fact.ResvStyle.{ResvStyle}
use Rattle.lsr_facts.specs.declared.router.Router.{Router}
use Rattle.forwarding_table.specs.Labels.{is_label}
use Rattle.abstract_paths.specs.declared.events.Made.{Made}
use Rattle.abstract_paths.specs.declared.events.Output.{Output}
use Rattle.abstract_paths.specs.Arrivals.{comes, hop_arrive}
use Rattle.abstract_paths.specs.Paths.{has_loop}
use Rattle.abstract_paths.specs.Places.{is_up}
use Rattle.abstract_paths.specs.Tears.{leaves_by}
use Rattle.abstract_router.specs.Arrivals.{arrival}
use Rattle.abstract_router.specs.Outcomes.{Outcome, refused}
use Rattle.abstract_router.specs.Preempting.{fits_link, told_preempted}
use Rattle.abstract_router.specs.Reserving.{Failed, Granted, PassedOver, Progress, Verdict, all_descriptors, carried_on, key_in, next_descriptor, resv_arrival, resv_by, resv_failed, resv_replied, verdict_by_rate, verdict_by_style, verdict_of, verdict_on_path}
use Rattle.abstract_router.specs.Soundness.{IsSound}
use Rattle.abstract_router.specs.States.{State, is_repaired}
use Rattle.abstract_router.specs.Steps.{Step}
use Rattle.router_laws.specs.Errors.{IsAskedBy}
use Rattle.router_laws.proofs.HeldOrTold.{IsHeldOrTold, descriptors-carry, own_held, stays, told}
use Rattle.router_laws.proofs.Led.{answered}

-- ---- what isn't passed over

-- by its label, its record and what there is room for
not_by_tests : (label loop room : Bool) → loop ≡ false → ◌≡◌ {A = Verdict} (if not label then Failed unacceptable_label else if loop then PassedOver else if not room then Failed no_bandwidth else Granted) PassedOver → ⊥
not_by_tests false loop room none e = let f = e in cc
not_by_tests true true room none e = let f = none in cc
not_by_tests true false true none e = let f = e in cc
not_by_tests true false false none e = let f = e in cc

not_by_rate : (r : Router) (fact : ResvFact) (room : Bool) → has_loop r fact.recorded ≡ false → (rate : Result ℕ TrafficFault) → verdict_by_rate r fact room rate ≡ PassedOver → ⊥
not_by_rate r fact room none (Err fault) e = let f = e in cc
not_by_rate r fact room none (Ok rate) e = not_by_tests (is_label fact.label) (has_loop r fact.recorded) room none e

-- by the other reservations of its session
not_by_style : (r : Router) (s : State) (key : Key) (fact : ResvFact) (room : Bool) → has_loop r fact.recorded ≡ false → verdict_by_style r s key fact room ≡ PassedOver → ⊥
not_by_style r s key fact room none = by (find_first (conflicts fact.link fact.style key) s.resvs)
  where
    by : (other : Option (Key × ResvFact)) → option_map_or (λ (other : Key × ResvFact). Failed (style_conflict other.1.style)) other (verdict_by_rate r fact room (flowspec_rate fact.flowspec)) ≡ PassedOver → ⊥
    by (Some other) e = let f = e in cc
    by None e = not_by_rate r fact room none (flowspec_rate fact.flowspec) e

-- Nor is it by its path: that leaves by the link, and the LSP isn't repaired.
not_passed_over : (r : Router) (s : State) (key : Key) (fact : ResvFact) (path : PathFact) → find key_cmp key s.facts.paths ≡ Some path → leaves_by fact.link path ≡ true → is_repaired s key ≡ false → has_loop r fact.recorded ≡ false → verdict_of r s key fact ≡ PassedOver → ⊥
unfolding verdict_of
not_passed_over r s key fact path known leaves alone none =
    cond_both (not (list_any (λ path. is_same_session key.session path.0.session) s.facts.paths)) (Failed no_path) _ (λ (v : Verdict). v ≡ PassedOver → ⊥) (λ absent e. let f = e in cc)
    (λ there e. not_by_style r s key fact (fits_link r s key fact) none (sym by_path ∙ e))
  where
    by_path : option_map_or (verdict_on_path r s key fact) (find key_cmp key s.facts.paths) (Failed no_sender) ≡ verdict_by_style r s key fact (fits_link r s key fact)
    by_path =
        ap (λ (o : Option PathFact). option_map_or (verdict_on_path r s key fact) o (Failed no_sender)) known
        ∙ (λ i. if not (leaves i) || alone i then PassedOver else verdict_by_style r s key fact (fits_link r s key fact))

-- ---- what descriptors lead to

-- with one more error there is a first
some_first : (o : Option RsvpError) (e : RsvpError) → is_some (option_or o (Some e)) ≡ true
some_first None e = refl
some_first (Some first) e = refl

module _ (r : Router) (s : State) (is : IsSound r s) (link : ℕ) (v : Resv) (d : FlowDescriptor) (among : Contains v.descriptors d) (path : PathFact)
    (known : find key_cmp (key_in v d) s.facts.paths ≡ Some path) (leaves : leaves_by link path ≡ true) (alone : is_repaired s (key_in v d) ≡ false) (loopless : has_loop r d.recorded ≡ false) where
  abbrev key : Key
  key = key_in v d

  -- its LSP has a reservation that the Resv asks for, or the loss of one is told
  abbrev IsServed : Outcome → Type 0
  IsServed o = IsHeldOrTold r s is link v key (IsAskedBy s link v key) (λ own asked. asked) o.after o.errors

  module _ (up : is_up s.facts.up link ≡ true) (style : ResvStyle) (of_style : style_of v.style ≡ Some style) where
    abbrev next : Progress → FlowDescriptor → Progress
    next = next_descriptor r link style v

    abbrev fact_in : Progress → FlowDescriptor → ResvFact
    fact_in progress x = resv_by progress.state.facts.moment link style v x

    -- descriptors change reservations alone
    abbrev Begun : Progress → Type 0
    Begun progress = (progress.state.facts ≡ s.facts) × (progress.state.repairs ≡ s.repairs)

    begun-next : (x : FlowDescriptor) (progress : Progress) (verdict : Verdict) → Begun progress → Begun (carried_on r link v x (fact_in progress x) progress verdict)
    begun-next x progress (Failed e) begun = begun
    begun-next x progress PassedOver begun = begun
    begun-next x progress Granted begun = begun

    -- after its turn one was in error, or the LSP is served
    abbrev IsReached : Progress → Type 0
    IsReached progress = (is_some progress.first ≡ true) ⊎ IsHeldOrTold r s is link v key (IsAskedBy s link v key) (λ own asked. asked) progress.state progress.errors

    turn : (progress : Progress) → Begun progress → IsReached (next progress d)
    turn progress begun = by (verdict_of r progress.state key (fact_in progress d)) refl
      where
        by : (verdict : Verdict) → verdict_of r progress.state key (fact_in progress d) ≡ verdict → IsReached (carried_on r link v d (fact_in progress d) progress verdict)
        by (Failed e) fails = inl (some_first progress.first e)
        by PassedOver passes =
            absurd (not_passed_over r progress.state key (fact_in progress d) path (ap (λ (f : Facts). find key_cmp key f.paths) begun.0 ∙ known) leaves (ap (λ (rows : List (Key × Repair)). is_some (find key_cmp key rows)) begun.1 ∙ alone) loopless passes)
        by Granted grants = inr (inl (own_held r s is link v key (IsAskedBy s link v key) (λ own asked. asked) up style of_style d among progress begun.0 grants refl))

    -- an error stays the first
    first-kept : (x : FlowDescriptor) (progress : Progress) (verdict : Verdict) → is_some progress.first ≡ true → is_some (carried_on r link v x (fact_in progress x) progress verdict).first ≡ true
    first-kept x progress (Failed e) some = some_first progress.first e
    first-kept x progress PassedOver some = some
    first-kept x progress Granted some = some

    first-stays : (ds : List FlowDescriptor) (progress : Progress) → is_some progress.first ≡ true → is_some (fold next progress ds).first ≡ true
    first-stays [] progress some = some
    first-stays (x ∷ xs) progress some = first-stays xs (next progress x) (first-kept x progress (verdict_of r progress.state (key_in v x) (fact_in progress x)) some)

    -- and so it is after the others
    later : (ds : List FlowDescriptor) → AllByRecursion (Contains v.descriptors) ds → (progress : Progress) → progress.state.facts ≡ s.facts → IsReached progress → IsReached (fold next progress ds)
    later ds all progress facts (inl some) = inl (first-stays ds progress some)
    later ds all progress facts (inr served) = inr (descriptors-carry r s is link v key (IsAskedBy s link v key) (λ own asked. asked) up style of_style ds all progress (facts, served)).1

    reached : (ds : List FlowDescriptor) → AllByRecursion (Contains v.descriptors) ds → Contains ds d → (progress : Progress) → Begun progress → IsReached (fold next progress ds)
    reached [] all has progress begun = absurd (none_contained d has)
    reached (x ∷ xs) all has progress begun =
        let begins = begun-next x progress (verdict_of r progress.state (key_in v x) (fact_in progress x)) begun in
        ⊎_elim (λ (same : x ≡ d). later xs all.1 (next progress x) begins.0 (subst (λ (y : FlowDescriptor). IsReached (next progress y)) (sym same) (turn progress begun)))
        (λ (behind : Contains xs d). reached xs all.1 behind (next progress x) begins) (Contains-cons_cases x xs d has)

  -- ---- what the Resv does

  -- where it is done, its LSP is served
  abbrev Serves : Outcome → Type 0
  Serves o = o.reply ≡ replies.Done → (o.is_silent ≡ false) × IsServed o

  replied-serves : (progress : Progress) → (is_some progress.first ≡ true) ⊎ IsHeldOrTold r s is link v key (IsAskedBy s link v key) (λ own asked. asked) progress.state progress.errors
      → (first : Option RsvpError) → progress.first ≡ first → Serves (resv_replied s progress first)
  replied-serves progress so (Some e) at = λ done. absurd (let f = done in cc)
  replied-serves progress (inl some) None at = absurd (let e = sym some ∙ ap is_some at in cc)
  replied-serves progress (inr served) None at =
      cond_both progress.has_granted _ (refused s NoMatch) Serves (λ some done. (refl, served)) (λ none done. absurd (let f = done in cc))

  resv-serves : is_up s.facts.up link ≡ true → Serves (resv_arrival r s link v)
  unfolding resv_arrival
  resv-serves up = by (style_of v.style) refl
    where
      by : (style : Option ResvStyle) → style_of v.style ≡ style → Serves (option_map_or (λ style. let progress = all_descriptors r s link style v in resv_replied s progress progress.first) style (resv_failed r s link v false [] unknown_style))
      by None unknown = λ done. absurd (let f = done in cc)
      by (Some style) of_style =
          let progress = all_descriptors r s link style v in
          let begins : Progress = record { state = s; errors = []; first = None; has_granted = false } in
          replied-serves progress (reached up style of_style v.descriptors (recursion_from_All (Contains v.descriptors) v.descriptors (All-contains_itself v.descriptors)) among begins (refl, refl)) progress.first refl

  arrival-serves : Serves (arrival r s (hop_arrive link (contents.Resv v)))
  unfolding arrival
  arrival-serves =
      cond_both (is_none (link_at r link)) (refused s UnknownLink) _ Serves (λ none done. absurd (let f = done in cc))
      (λ there. cond_both (not (is_up s.facts.up link)) (refused s LinkDown) _ Serves (λ down done. absurd (let f = done in cc)) (λ up. resv-serves (not-false (is_up s.facts.up link) up)))

-- The LSP of such a descriptor has after the step a reservation that the Resv asks for, or its next hop is told that it lost one.
pub each_reserved : (r : Router) (before after : State) (made : Made) (link : ℕ) (v : Resv) (d : FlowDescriptor) (path : PathFact) → IsSound r before → Step r before made after → made.event ≡ comes link (contents.Resv v) → made.reply ≡ replies.Done
    → Contains v.descriptors d → find key_cmp (key_in v d) before.facts.paths ≡ Some path → find key_cmp (key_in v d) after.facts.paths ≡ Some path
    → leaves_by link path ≡ true → is_repaired before (key_in v d) ≡ false → has_loop r d.recorded ≡ false
    → ((resv : ResvFact) × IsAskedBy before link v (key_in v d) resv × (find key_cmp (key_in v d) after.resvs ≡ Some resv))
    ⊎ ((lost : ResvFact) × (output : Output) × IsAskedBy before link v (key_in v d) lost × (told_preempted r (key_in v d) lost ≡ Some output) × Contains made.outputs output)
each_reserved r before after made link v d path is x event is_done among known stayed leaves alone loopless = by serves.1
  where
    own : Key
    own = key_in v d

    o : Outcome
    o = arrival r before (hop_arrive link (contents.Resv v))

    serves : (o.is_silent ≡ false) × IsServed r before is link v d among path known leaves alone loopless o
    serves = arrival-serves r before is link v d among path known leaves alone loopless (sym (answered r before after made (comes link (contents.Resv v)) o x event refl) ∙ is_done)

    by : IsServed r before is link v d among path known leaves alone loopless o
        → ((resv : ResvFact) × IsAskedBy before link v own resv × (find key_cmp own after.resvs ≡ Some resv))
        ⊎ ((lost : ResvFact) × (output : Output) × IsAskedBy before link v own lost × (told_preempted r own lost ≡ Some output) × Contains made.outputs output)
    by (inl held) = inl (held.0, held.1, stays r before after made link v own is x event serves.0 held.0 held.2.stood (stayed ∙ sym known) held.3)
    by (inr said) = inr (said.0, said.2.output, said.1, said.2.tells, told r before after made link v own is x event serves.0 said.0 said.2 said.3)

-- A neighbour's Resv puts what its descriptors ask for; no other event makes a reservation, and no stage after it.
use Rattle.std.specs.Prelude.{◌≡◌, ◌⊎◌, ◌^◌, ◌&&◌, ℕ, not, nat_lt, Bool, true, false, if◌then◌else◌, List, [], ◌∷◌, Contains, filter, fold, Option, Some, None, IfSome, is_none, option_to_list}
use Rattle.std.specs.FinMap.Entries.{find}
use Rattle.std.specs.List.{AllByRecursion, list_any}
use Rattle.std.specs.Option.{option_map_or}
use Rattle.std.proofs.Common.{refl, sym, ap, subst, inl, inr}
use Rattle.std.proofs.lemmas.Bool.{cond_both, not-false}
use Rattle.std.proofs.lemmas.List.Elements.{All-contains_itself, recursion_from_All}
use Rattle.rsvp_contents.specs.declared.descriptors.FlowDescriptor.{FlowDescriptor}
use Rattle.rsvp_contents.specs.declared.message.Reading.{Reading}
use Rattle.rsvp_contents.specs.declared.message.Reading.TheVariants as readings
use Rattle.rsvp_contents.specs.declared.messages.Content.{Content}
use Rattle.rsvp_contents.specs.declared.messages.Content.TheVariants as contents
use Rattle.rsvp_contents.specs.declared.messages.Path.{Path}
use Rattle.rsvp_contents.specs.declared.messages.Resv.{Resv}
use Rattle.rsvp_contents.specs.declared.messages.ResvTear.{ResvTear}
use Rattle.sorted_rows.specs.ListLaws.{all-filter, all-weaker}
use Rattle.sorted_rows.specs.RowsLaws.{all-put_row, all_found, find-all_row}
use Rattle.lsr_facts.specs.Errors.{no_label, unknown_style}
use Rattle.lsr_facts.specs.OrderLaws.{key_exact, key_total}
use Rattle.lsr_facts.specs.Orders.{is_one_of, key_cmp}
use Rattle.lsr_facts.specs.Reservations.{expire_resvs, resv_lives_past, style_of}
use Rattle.lsr_facts.specs.Routers.{link_at}
use Rattle.lsr_facts.specs.declared.errors.RsvpError.{RsvpError}
use Rattle.lsr_facts.specs.declared.facts.Facts.{Facts}
use Rattle.lsr_facts.specs.declared.key.Key.{Key}
use Rattle.lsr_facts.specs.declared.refusal.Refusal.TheVariants.{InUse, LinkDown, NoMatch, UnknownLink}
use Rattle.lsr_facts.specs.declared.resv_fact.ResvFact.{ResvFact}
use Rattle.lsr_facts.specs.declared.resv_fact.ResvStyle.{ResvStyle}
use Rattle.lsr_facts.specs.declared.router.Router.{Router}
use Rattle.abstract_paths.specs.Commands.{begun_by, command}
use Rattle.abstract_paths.specs.Outcomes as paths
use Rattle.abstract_paths.specs.Paths.{failed, key_of, path_arrival}
use Rattle.abstract_paths.specs.Places.{is_up}
use Rattle.abstract_paths.specs.Time.{tick}
use Rattle.abstract_paths.specs.declared.commands.Command.{Command}
use Rattle.abstract_paths.specs.declared.events.Event.{Event}
use Rattle.abstract_paths.specs.declared.events.Event.TheVariants as events
use Rattle.abstract_paths.specs.declared.events.Made.{Made}
use Rattle.abstract_paths.specs.declared.events.Output.{Output}
use Rattle.abstract_paths.specs.declared.ways.ArrivalWay.{ArrivalWay}
use Rattle.abstract_paths.specs.declared.ways.ArrivalWay.TheVariants as ways
use Rattle.abstract_paths.specs.declared.ways.Arrive.{Arrive}
use Rattle.abstract_router.specs.Arrivals.{arrival, arrival_by, command_comes, commanded_by, for_reservations, is_done, labelled_path_arrival, message_arrival, moment_comes, outcome, reading_arrival, routed_arrival, stack_arrival, takes_used_bypass}
use Rattle.abstract_router.specs.Labels.{has_free_label}
use Rattle.abstract_router.specs.Outcomes.{Outcome, of_paths, refused}
use Rattle.abstract_router.specs.Preempting.{giving_way}
use Rattle.abstract_router.specs.Repairing.{repaired, repairs_left}
use Rattle.abstract_router.specs.Reserving.{Failed, Granted, PassedOver, Progress, Verdict, all_descriptors, carried_on, key_in, next_descriptor, resv_arrival, resv_by, resv_failed, resv_replied, unknown_resv, verdict_of}
use Rattle.abstract_router.specs.Soundness.{IsSound}
use Rattle.abstract_router.specs.States.{State}
use Rattle.abstract_router.specs.Steps.{Step, settled, stands, taken_over, with_moments}
use Rattle.abstract_router.specs.Tearing.{is_resv_torn_by, resv_err_arrival, resv_err_passed_on, resv_tear_arrival, stack_err_arrival}
use Rattle.router_soundness.proofs.OtherWays.{returned_err_by, returned_resv_by, returned_tear_by, returned_unknown_by, unknown_routed_by, unknown_stack_by}
use Rattle.router_laws.proofs.Arriving.{returned-same}
use Rattle.label_laws.specs.Held.{IsAskedFor}

-- What holds of each reservation before an event, and of each that a neighbour's Resv asks for, holds of each after it.
module _ (r : Router) (s : State) (Row : Key × ResvFact → Type 0) (rows : AllByRecursion Row s.resvs) where
  abbrev Has : Outcome → Type 0
  Has o = AllByRecursion Row o.after.resvs

  -- ---- a Resv, descriptor by descriptor

  module _ (link : ℕ) (style : ResvStyle) (v : Resv) where
    -- the facts are as before, and so is what holds of each reservation
    abbrev Carries : Progress → Type 0
    Carries progress = (progress.state.facts ≡ s.facts) × AllByRecursion Row progress.state.resvs

    abbrev Grants : FlowDescriptor → Type 0
    Grants d = Row (key_in v d, resv_by s.facts.moment link style v d)

    verdict-carries : (d : FlowDescriptor) (progress : Progress) → Grants d → Carries progress → (verdict : Verdict) → Carries (carried_on r link v d (resv_by progress.state.facts.moment link style v d) progress verdict)
    verdict-carries d progress new is (Failed e) = is
    verdict-carries d progress new is PassedOver = is
    verdict-carries d progress new is Granted =
        let key = key_in v d in
        let fact = resv_by progress.state.facts.moment link style v d in
        let left : Key × ResvFact → Bool = λ resv. not (is_one_of (giving_way r progress.state key fact) resv.0) in
        let own : Row (key, fact) = subst (λ (f : Facts). Row (key, resv_by f.moment link style v d)) (sym is.0) new in
        (is.0, all-put_row key_cmp Row key fact (λ k tied. subst (λ (q : Key). Row (q, fact)) (key_exact key k tied) own) own (filter left progress.state.resvs) (all-filter Row left progress.state.resvs is.1))

    descriptors-carry : (ds : List FlowDescriptor) → AllByRecursion Grants ds → (progress : Progress) → Carries progress → Carries (fold (next_descriptor r link style v) progress ds)
    descriptors-carry [] new progress is = is
    descriptors-carry (d ∷ ds) new progress is =
        let fact = resv_by progress.state.facts.moment link style v d in
        descriptors-carry ds new.1 (next_descriptor r link style v progress d) (verdict-carries d progress new.0 is (verdict_of r progress.state (key_in v d) fact))

  -- what holds of each that a Resv's descriptors ask for
  abbrev AreGranted : ℕ → Resv → Type 0
  AreGranted link v = (style : ResvStyle) → style_of v.style ≡ Some style → AllByRecursion (Grants link style v) v.descriptors

  resv-has : (link : ℕ) (v : Resv) → AreGranted link v → Has (resv_arrival r s link v)
  unfolding resv_arrival
  resv-has link v new = by_style (style_of v.style) refl
    where
      by_first : (progress : Progress) → AllByRecursion Row progress.state.resvs → (first : Option RsvpError) → Has (resv_replied s progress first)
      by_first progress is (Some e) = is
      by_first progress is None = cond_both progress.has_granted _ (refused s NoMatch) Has (λ some. is) (λ none. rows)

      by_style : (style : Option ResvStyle) → style_of v.style ≡ style → Has (option_map_or (λ style. let progress = all_descriptors r s link style v in resv_replied s progress progress.first) style (resv_failed r s link v false [] unknown_style))
      by_style None of = rows
      by_style (Some style) of =
          let progress = all_descriptors r s link style v in
          by_first progress (descriptors-carry link style v v.descriptors (new style of) (record { state = s; errors = []; first = None; has_granted = false }) (refl, rows)).1 progress.first

  -- ---- other messages

  path-has : (link : ℕ) (p : Path) → Has (labelled_path_arrival r s link p)
  unfolding labelled_path_arrival
  path-has link p =
      cond_both (is_done (path_arrival r s.facts link p).reply && is_none (find key_cmp (key_of p) s.facts.paths) && not (has_free_label r s.labels s.resting)) (of_paths s (failed r s.facts link p no_label)) (of_paths s (path_arrival r s.facts link p)) Has
      (λ full. rows) (λ room. rows)

  tear-has : (link : ℕ) (t : ResvTear) → Has (resv_tear_arrival s link t)
  unfolding resv_tear_arrival
  tear-has link t = cond_both (list_any (is_resv_torn_by link t) s.resvs) _ (refused s NoMatch) Has (λ some. all-filter Row (λ resv. not (is_resv_torn_by link t resv)) s.resvs rows) (λ none. rows)

  passed_on-has : (matched : List (List Output)) → Has (resv_err_passed_on s matched)
  passed_on-has [] = rows
  passed_on-has (one ∷ more) = rows

  message-has : (link : ℕ) (content : Content) → ((v : Resv) → content ≡ contents.Resv v → AreGranted link v) → Has (message_arrival r s link content)
  unfolding resv_err_arrival
  message-has link (contents.Path p) new = path-has link p
  message-has link (contents.Resv v) new = resv-has link v (new v refl)
  message-has link (contents.PathErr e) new = rows
  message-has link (contents.ResvErr e) new = passed_on-has _
  message-has link (contents.PathTear t) new = rows
  message-has link (contents.ResvTear t) new = tear-has link t

  -- what a neighbour's Resv asks for that is read whole
  abbrev AreGrantedBy : ℕ → Reading → Type 0
  AreGrantedBy link reading = (v : Resv) → reading ≡ readings.Whole (contents.Resv v) → AreGranted link v

  reading-has : (link : ℕ) (reading : Reading) → AreGrantedBy link reading → Has (reading_arrival r s link reading)
  unfolding unknown_resv resv_err_arrival
  reading-has link (readings.Whole content) new = message-has link content (λ v same. new v (ap (λ (c : Content). readings.Whole c) same))
  reading-has link (readings.Unknown (contents.Path p) class ctype) new = rows
  reading-has link (readings.Unknown (contents.Resv v) class ctype) new = rows
  reading-has link (readings.Unknown (contents.PathErr e) class ctype) new = rows
  reading-has link (readings.Unknown (contents.ResvErr e) class ctype) new = passed_on-has _
  reading-has link (readings.Unknown (contents.PathTear t) class ctype) new = rows
  reading-has link (readings.Unknown (contents.ResvTear t) class ctype) new = tear-has link t

  stack-has : (content : Content) → Has (stack_arrival r s content)
  unfolding stack_err_arrival
  stack-has (contents.Path p) = rows
  stack-has (contents.Resv v) = rows
  stack-has (contents.PathErr e) = rows
  stack-has (contents.ResvErr e) = passed_on-has _
  stack-has (contents.PathTear t) = rows
  stack-has (contents.ResvTear t) = rows

  routed-has : (content : Content) → Has (routed_arrival r s content)
  routed-has (contents.Path p) = rows
  routed-has (contents.Resv v) = returned_resv_by Has r s rows v (λ style reply heard. subst (λ (t : State). AllByRecursion Row t.resvs) (sym (returned-same r s style v)) rows)
  routed-has (contents.PathErr e) = returned_err_by Has r s rows e (λ key path. rows)
  routed-has (contents.ResvErr e) = rows
  routed-has (contents.PathTear t) = rows
  routed-has (contents.ResvTear t) = returned_tear_by Has r s rows t (λ test. rows)

  way-has : (way : ArrivalWay) (link : ℕ) (reading : Reading) → (way ≡ ways.Hop → AreGrantedBy link reading) → Has (arrival_by r s way link reading)
  way-has ways.Hop link reading new = reading-has link reading (new refl)
  way-has ways.Stack link (readings.Whole content) new = stack-has content
  way-has ways.Stack link (readings.Unknown content class ctype) new = unknown_stack_by Has r s class ctype content (λ p. rows) (stack-has content)
  way-has ways.Routed link (readings.Whole content) new = routed-has content
  way-has ways.Routed link (readings.Unknown content class ctype) new = unknown_routed_by Has r s class ctype content (λ v. returned_unknown_by Has r s rows v class ctype (λ repair. rows)) (routed-has content)

  arrival-has : (a : Arrive) → (is_up s.facts.up a.link ≡ true → a.way ≡ ways.Hop → AreGrantedBy a.link a.reading) → Has (arrival r s a)
  unfolding arrival
  arrival-has a new =
      cond_both (is_none (link_at r a.link)) (refused s UnknownLink) _ Has (λ none. rows)
      (λ there. cond_both (not (is_up s.facts.up a.link)) (refused s LinkDown) _ Has (λ down. rows) (λ up. way-has a.way a.link a.reading (new (not-false (is_up s.facts.up a.link) up))))

  -- ---- other events

  tick-has : (n : ℕ) → Has (moment_comes r s n)
  unfolding moment_comes tick expire_resvs
  tick-has n =
      cond_both (nat_lt (2 ^ 62) n) _ _ (λ (o : paths.PathOutcome). Has (for_reservations r s n (of_paths s o))) (λ above. rows)
      (λ most. cond_both (nat_lt n s.facts.moment) _ _ (λ (o : paths.PathOutcome). Has (for_reservations r s n (of_paths s o))) (λ below. rows) (λ later. all-filter Row (λ resv. resv_lives_past n resv.1) s.resvs rows))

  command-has : (c : Command) → Has (command_comes r s c)
  unfolding command_comes
  command-has c =
      cond_both o.is_silent o (commanded_by r s c o) Has (λ silent. rows)
      (λ loud. cond_both (takes_used_bypass s c) (refused s InUse) _ Has (λ used. rows) (λ other. all-filter Row (λ resv. not (is_one_of (option_to_list (begun_by r s.facts c)) resv.0)) s.resvs rows))
    where
      o : Outcome
      o = of_paths s (command r s.facts c)

  event-has : (event : Event) → ((a : Arrive) → event ≡ events.Arrive a → is_up s.facts.up a.link ≡ true → a.way ≡ ways.Hop → AreGrantedBy a.link a.reading) → Has (outcome r s event)
  event-has (events.Arrive a) new = arrival-has a (new a refl)
  event-has (events.Relay m) new = rows
  event-has (events.Tick n) new = tick-has n
  event-has (events.LinkUp number) new = rows
  event-has (events.LinkDown number) new = rows
  event-has (events.Command c) new = command-has c
  event-has events.Restart new = tt
  event-has events.Start new = rows

  -- So it is where it holds of each that a Resv asked for.
  pub event-rows : (event : Event) → ((key : Key) (resv : ResvFact) → IsAskedFor s event key resv → Row (key, resv)) → AllByRecursion Row (outcome r s event).after.resvs
  event-rows event asked =
      event-has event
      (λ a came up way v read style of_style.
      all-weaker (Contains v.descriptors) (Grants a.link style v)
      (λ d among.
      asked (key_in v d) (resv_by s.facts.moment a.link style v d)
      (record { message = v; descriptor = d; style = style; brings = record { arrived = a; came = came; by_way = way; read = read; up = up; among = among; of_style = of_style }; named = refl; asked = refl }))
      v.descriptors (recursion_from_All (Contains v.descriptors) v.descriptors (All-contains_itself v.descriptors)))

-- What follows from the event takes reservations alone: so it is after a step.
pub step-rows : (r : Router) (before after : State) (made : Made) (Row : Key × ResvFact → Type 0) → Step r before made after → AllByRecursion Row before.resvs
    → ((key : Key) (resv : ResvFact) → IsAskedFor before made.event key resv → Row (key, resv)) → AllByRecursion Row after.resvs
unfolding taken_over repaired repairs_left
step-rows r before after made Row x rows asked = subst (λ (t : State). AllByRecursion Row t.resvs) (sym x.changed) (by o.is_silent)
  where
    o : Outcome
    o = outcome r before made.event

    of : AllByRecursion Row o.after.resvs
    of = event-rows r before Row rows made.event asked

    by : (silent : Bool) → AllByRecursion Row (if silent then o.after else with_moments r before o (settled r made.labels o.after)).resvs
    by true = of
    by false = all-filter Row (stands (taken_over r o.after).facts) o.after.resvs of

-- a reservation is one of before, or was asked for
abbrev pub WasOrAsked : State → Event → Key × ResvFact → Type 0
WasOrAsked s event row = (find key_cmp row.0 s.resvs ≡ Some row.1) ⊎ IsAskedFor s event row.0 row.1

pub all_were : (r : Router) (s : State) (event : Event) → IsSound r s → AllByRecursion (WasOrAsked s event) s.resvs
all_were r s event is = all-weaker (λ (row : Key × ResvFact). find key_cmp row.0 s.resvs ≡ Some row.1) (WasOrAsked s event) (λ row found. inl found) s.resvs (all_found key_cmp key_total s.resvs is.held.in_order)

pub asked_for : (r : Router) (before after : State) (made : Made) (key : Key) (resv : ResvFact) → IsSound r before → Step r before made after → find key_cmp key after.resvs ≡ Some resv → (find key_cmp key before.resvs ≡ Some resv) ⊎ IsAskedFor before made.event key resv
asked_for r before after made key resv is x found =
    subst (λ (o : Option ResvFact). IfSome o (λ v. WasOrAsked before made.event (key, v))) found
    (find-all_row key_cmp key_exact (WasOrAsked before made.event) key after.resvs (step-rows r before after made (WasOrAsked before made.event) x (all_were r before made.event is) (λ k v asked. inr asked)))

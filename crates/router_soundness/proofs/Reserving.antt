-- What a Resv, a ResvTear and a ResvErr leave: reservations as they should be.
use Rattle.std.specs.Prelude.{◌≡◌, ℕ, Bool, true, false, not, List, [], ◌∷◌, filter_map, fold, nat_le, Option, Some, None, IsTrue}
use Rattle.std.specs.List.{AllByRecursion, list_any}
use Rattle.std.specs.Option.{option_map_or}
use Rattle.std.proofs.Common.{refl, sym, ap, subst, ◌∙◌, inl, arith}
use Rattle.std.proofs.lemmas.Bool.{and_parts, cond_both}
use Rattle.rsvp_contents.proofs.Fitted.{message_fits}
use Rattle.rsvp_contents.specs.declared.messages.Content.TheVariants as contents
use Rattle.rsvp_contents.specs.declared.messages.Resv.{Resv}
use Rattle.rsvp_contents.specs.declared.messages.ResvErr.{ResvErr}
use Rattle.rsvp_contents.specs.declared.messages.ResvTear.{ResvTear}
use Rattle.rsvp_contents.specs.Fitting.{are_passed_by, fits_resv, has_adspec_last, have_short_records, written_len}
use Rattle.rsvp_contents.specs.Limits.{is_short_passing, is_short_record}
use Rattle.rsvp_contents.specs.Spelling.{IsMessage}
use Rattle.rsvp_contents.specs.declared.descriptors.FlowDescriptor.{FlowDescriptor}
use Rattle.rsvp_contents.specs.Flows.{fits_style}
use Rattle.lsr_facts.specs.declared.errors.RsvpError.{RsvpError}
use Rattle.lsr_facts.specs.declared.facts.Facts.{Facts}
use Rattle.lsr_facts.specs.declared.key.Key.{Key}
use Rattle.lsr_facts.specs.declared.refusal.Refusal.TheVariants.{NoMatch}
use Rattle.lsr_facts.specs.declared.router.Router.{Router}
use Rattle.lsr_facts.specs.declared.resv_fact.ResvStyle.{ResvStyle}
use Rattle.lsr_facts.specs.Reservations.{style_of}
use Rattle.label_space.specs.Rests.{resting_past}
use Rattle.abstract_paths.specs.declared.events.Output.{Output}
use Rattle.abstract_paths.specs.Soundness.{IsStanding}
use Rattle.router_soundness.proofs.Granting.{granted_means, held_granted, IsAccepted}
use Rattle.router_soundness.proofs.Holding.{held_where}
use Rattle.router_soundness.proofs.Keeping.{labelled, rest_now, unchanged}
use Rattle.router_soundness.proofs.Repairing.{repaired_resvs_where, repaired_with_resv}
use Rattle.router_soundness.proofs.Serving.{AreServed, served_sound, within_in_use}
use Rattle.router_soundness.proofs.Settling.{Leaves}
use Rattle.router_soundness.specs.Drafted.{IsDrafted}
use Rattle.abstract_router.specs.Choosing.{HasLabel}
use Rattle.lsr_facts.specs.Errors.{unknown_style}
use Rattle.abstract_router.specs.Outcomes.{refused}
use Rattle.abstract_router.specs.Preempting.{giving_way, fits_link}
use Rattle.abstract_router.specs.Reserving.{Progress, Verdict, Failed, PassedOver, Granted, all_descriptors, carried_on, key_in, next_descriptor, resv_arrival, resv_by, resv_failed, resv_replied, verdict_of}
use Rattle.abstract_router.specs.Soundness.{AreHeld, AreRepaired, IsResv, IsSound}
use Rattle.abstract_router.specs.States.{State, is_one_of, with_resvs_where, without_resvs}
use Rattle.abstract_router.specs.Tearing.{is_resv_torn_by, resv_err_passed_on, err_onward, resv_err_arrival, resv_tear_arrival, stack_err_arrival, stack_err_onward}

-- What some descriptors of a Resv lead to is as it should be, and touches reservations and repairs alone.
pub record IsCarried (r : Router) (s : State) (after : State) : Type 0 where
  pub held : AreHeld r after
  pub repaired : AreRepaired after
  pub facts : after.facts ≡ s.facts
  pub labels : after.labels ≡ s.labels
  pub assignments : after.assignments ≡ s.assignments
  pub served : AreServed after
  pub resting : after.resting ≡ s.resting

-- what a Resv carries that is a message fits
pub record Fits (v : Resv) : Type 0 where
  pub passing : IsTrue (is_short_passing v.passing)
  pub passed_on : IsTrue (are_passed_by 2 v.passing)
  pub adspec_last : IsTrue (has_adspec_last v.passing)
  pub records : IsTrue (have_short_records v.descriptors)

pub resv_fits : (v : Resv) → IsMessage (contents.Resv v) → Fits v
resv_fits v is =
    let whole = (and_parts (fits_resv v) (nat_le (written_len (contents.Resv v)) 4096) (message_fits (contents.Resv v) is)).0 in
    let a = and_parts (have_short_records v.descriptors) _ whole in
    let b = and_parts (is_short_passing v.passing) _ a.1 in
    let c = and_parts (are_passed_by 2 v.passing) _ b.1 in
    let d = and_parts (has_adspec_last v.passing) (fits_style v.style v.descriptors) c.1 in
    record { passing = b.0; passed_on = c.0; adspec_last = d.0; records = a.0 }

-- a descriptor's record is short
abbrev pub IsShort : FlowDescriptor → Type 0
IsShort d = IsTrue (option_map_or is_short_record d.recorded true)

-- The reservation that a descriptor asks for is as it should be, once it was tested.
pub asked_is : (s : State) (link : ℕ) (style : ResvStyle) (v : Resv) (d : FlowDescriptor) (key : Key) (has_room : Bool) → Fits v → IsShort d → IsAccepted s key (resv_by s.facts.moment link style v d) has_room
    → IsResv s.facts.moment (key, resv_by s.facts.moment link style v d)
asked_is s link style v d key has_room fit short may = record {
  has_rate = may.rate;
  label = may.label;
  live = omega arith;
  recorded = short;
  passing = fit.passing;
  passed_on = fit.passed_on;
  adspec_last = fit.adspec_last;
}

-- so it is before any descriptor
pub carried_none : (r : Router) (s : State) → IsSound r s → IsCarried r s s
carried_none r s is = record { held = is.held; repaired = is.repaired; facts = refl; labels = refl; assignments = refl; served = served_sound r s is; resting = refl }

module _ (r : Router) (s : State) (link : ℕ) (style : ResvStyle) (v : Resv) (fit : Fits v) where
  -- one descriptor more
  carried : (progress : Progress) (d : FlowDescriptor) → IsShort d → IsCarried r s progress.state → (verdict : Verdict)
      → verdict_of r progress.state (key_in v d) (resv_by progress.state.facts.moment link style v d) ≡ verdict
      → IsCarried r s (carried_on r link v d (resv_by progress.state.facts.moment link style v d) progress verdict).state
  carried progress d short is (Failed e) by = is
  carried progress d short is PassedOver by = is
  carried progress d short is Granted by =
      let fact = resv_by progress.state.facts.moment link style v d in
      let may = granted_means r progress.state (key_in v d) fact by in
      let gone = giving_way r progress.state (key_in v d) fact in
      record {
        held = held_granted r progress.state (key_in v d) fact is.held may (asked_is progress.state link style v d (key_in v d) (fits_link r progress.state (key_in v d) fact) fit short may.accepted);
        repaired = repaired_with_resv (without_resvs gone progress.state) (key_in v d) fact may.unrepaired (repaired_resvs_where progress.state (λ resv. not (is_one_of gone resv.0)) is.held.in_order is.repaired);
        facts = is.facts;
        labels = is.labels;
        assignments = is.assignments;
        served = is.served;
        resting = is.resting;
      }

  all_carried : (ds : List FlowDescriptor) (progress : Progress) → IsTrue (have_short_records ds) → IsCarried r s progress.state → IsCarried r s (fold (next_descriptor r link style v) progress ds).state
  all_carried [] progress short is = is
  all_carried (d ∷ ds) progress short is =
      let parts = and_parts (option_map_or is_short_record d.recorded true) (have_short_records ds) short in
      all_carried ds (next_descriptor r link style v progress d) parts.1 (carried progress d parts.0 is (verdict_of r progress.state (key_in v d) (resv_by progress.state.facts.moment link style v d)) refl)

-- a state whose reservations changed as they should
pub drafted : (r : Router) (s after : State) → IsSound r s → IsCarried r s after → IsDrafted r s after
drafted r s after is carried = record {
  later = omega (arith, ap (λ (facts : Facts). facts.moment) carried.facts);
  paths = subst (IsStanding r) (sym carried.facts) is.paths;
  held = carried.held;
  repaired = carried.repaired;
  labels = carried.labels;
  assignments = carried.assignments;
  served = carried.served.1;
  enough = carried.served.2;
  within = within_in_use after carried.served;
  resting = subst (λ (facts : Facts). after.resting ≡ resting_past facts.moment s.resting) (sym carried.facts) (carried.resting ∙ rest_now r s is);
  choice = inl (subst (λ facts. AllByRecursion (HasLabel s.labels) facts.paths) (sym carried.facts) (labelled r s is));
}

-- a Resv
pub resv-leaves : (r : Router) (s : State) (link : ℕ) (v : Resv) → IsSound r s → Fits v → Leaves r s (resv_arrival r s link v)
unfolding resv_arrival
resv-leaves r s link v is fit = by_style (style_of v.style)
  where
    by_first : (progress : Progress) → IsCarried r s progress.state → (first : Option RsvpError) → Leaves r s (resv_replied s progress first)
    by_first progress carried (Some e) = drafted r s progress.state is carried
    by_first progress carried None = cond_both progress.has_granted _ (refused s NoMatch) (Leaves r s) (λ some. drafted r s progress.state is carried) (λ none. is)

    by_style : (style : Option ResvStyle) → Leaves r s (option_map_or (λ style. let progress = all_descriptors r s link style v in resv_replied s progress progress.first) style (resv_failed r s link v false [] unknown_style))
    by_style None = unchanged r s is
    by_style (Some style) =
        let progress = all_descriptors r s link style v in
        by_first progress (all_carried r s link style v fit v.descriptors (record { state = s; errors = []; first = None; has_granted = false }) fit.records (carried_none r s is)) progress.first

-- a ResvTear
pub resv_tear-leaves : (r : Router) (s : State) (link : ℕ) (t : ResvTear) → IsSound r s → Leaves r s (resv_tear_arrival s link t)
unfolding resv_tear_arrival
resv_tear-leaves r s link t is =
    cond_both (list_any (is_resv_torn_by link t) s.resvs) _ (refused s NoMatch) (Leaves r s)
    (λ some.
    drafted r s (with_resvs_where (λ resv. not (is_resv_torn_by link t resv)) s) is
    (record {
      held = held_where r s (λ resv. not (is_resv_torn_by link t resv)) is.held;
      repaired = repaired_resvs_where s (λ resv. not (is_resv_torn_by link t resv)) is.held.in_order is.repaired;
      facts = refl;
      labels = refl;
      assignments = refl;
      served = served_sound r s is;
      resting = refl;
    }))
    (λ none. is)

-- what comes of the descriptors of a ResvErr that matched
passed_on-leaves : (r : Router) (s : State) (matched : List (List Output)) → IsSound r s → Leaves r s (resv_err_passed_on s matched)
passed_on-leaves r s [] is = is
passed_on-leaves r s (one ∷ more) is = unchanged r s is

-- a ResvErr
pub resv_err-leaves : (r : Router) (s : State) (link : ℕ) (e : ResvErr) → IsSound r s → Leaves r s (resv_err_arrival r s link e)
unfolding resv_err_arrival
resv_err-leaves r s link e is = passed_on-leaves r s (filter_map (err_onward r s link e) e.descriptors) is

-- and one that comes through a stack
pub stack_err-leaves : (r : Router) (s : State) (e : ResvErr) → IsSound r s → Leaves r s (stack_err_arrival r s e)
unfolding stack_err_arrival
stack_err-leaves r s e is = passed_on-leaves r s (filter_map (stack_err_onward r s e) e.descriptors) is

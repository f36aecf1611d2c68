-- A step keeps labels, takes them, and gives those that it chose.
use Rattle.std.specs.Prelude.{◌≡◌, ◌⊎◌, ◌≢◌, ℕ, Bool, true, false, if◌then◌else◌, List, Option, Some, None, IfSome, option_map}
use Rattle.std.specs.FinMap.Entries.{find}
use Rattle.std.specs.List.{AllByRecursion}
use Rattle.std.specs.Option.{option_or}
use Rattle.std.proofs.Common.{refl, sym, subst, inl, inr}
use Rattle.sorted_rows.specs.ListLaws.{all-weaker}
use Rattle.sorted_rows.specs.RowsLaws.{all_found, find-all_row}
use Rattle.lsr_facts.specs.OrderLaws.{key_exact, key_total}
use Rattle.lsr_facts.specs.Orders.{key_cmp}
use Rattle.lsr_facts.specs.Routers.{IsRouter}
use Rattle.lsr_facts.specs.declared.key.Key.{Key}
use Rattle.lsr_facts.specs.declared.path_fact.PathFact.{PathFact}
use Rattle.lsr_facts.specs.declared.router.Router.{Router}
use Rattle.abstract_paths.specs.declared.events.Event.{Event}
use Rattle.abstract_paths.specs.declared.events.Event.TheVariants as events
use Rattle.abstract_paths.specs.declared.events.Made.{Made}
use Rattle.abstract_router.specs.Arrivals.{outcome}
use Rattle.abstract_router.specs.Labels.{labelled_keys, labels_after}
use Rattle.abstract_router.specs.Outcomes.{Outcome}
use Rattle.abstract_router.specs.Repairing.{repaired, repairs_left}
use Rattle.abstract_router.specs.Soundness.{IsSound}
use Rattle.abstract_router.specs.States.{State}
use Rattle.abstract_router.specs.Steps.{Step, settled, taken_over, with_moments}
use Rattle.abstract_router.specs.UpstreamLaws.{all-filter_map}
use Rattle.router_soundness.proofs.Drafting.{outcome-leaves}
use Rattle.router_soundness.proofs.Resting.{labels_in_order}
use Rattle.router_soundness.proofs.Settling.{LeavesBy}
use Rattle.router_soundness.proofs.Silence.{silent_keeps}
use Rattle.router_laws.proofs.Settled.{runs_for}

-- a label is the one that the LSP had, or the one that was chosen for it
abbrev WasOrChosen : List (Key × ℕ) → List (Key × ℕ) → Key × ℕ → Type 0
WasOrChosen labels chosen row = (find key_cmp row.0 labels ≡ Some row.1) ⊎ (find key_cmp row.0 chosen ≡ Some row.1)

after-were : (labels chosen : List (Key × ℕ)) (paths : List (Key × PathFact)) → AllByRecursion (WasOrChosen labels chosen) (labels_after labels chosen paths)
unfolding labels_after
after-were labels chosen paths =
    all-filter_map (WasOrChosen labels chosen) (λ key. option_map (λ label. (key, label)) (option_or (find key_cmp key labels) (find key_cmp key chosen))) (λ key. by key (find key_cmp key labels) (find key_cmp key chosen) refl refl) (labelled_keys paths)
  where
    by : (key : Key) (held given : Option ℕ) → find key_cmp key labels ≡ held → find key_cmp key chosen ≡ given → IfSome (option_map {U = Key × ℕ} (λ label. (key, label)) (option_or held given)) (WasOrChosen labels chosen)
    by key (Some label) given at too = inl at
    by key None (Some label) at too = inr too
    by key None None at too = tt

-- a silent event leaves labels, or takes them all
silent-were : (r : Router) (s : State) (event : Event) (Row : Key × ℕ → Type 0) → (s.facts.cold ≡ true → event ≡ events.Start) → (outcome r s event).is_silent ≡ true → AllByRecursion Row s.labels → AllByRecursion Row (outcome r s event).after.labels
silent-were r s event Row awake silent rows = by event awake silent
  where
    kept : (event : Event) → event ≢ events.Start → event ≢ events.Restart → (s.facts.cold ≡ true → event ≡ events.Start) → (outcome r s event).is_silent ≡ true → AllByRecursion Row (outcome r s event).after.labels
    kept event other stays awake silent = subst (λ (t : State). AllByRecursion Row t.labels) (sym (silent_keeps r s event (runs_for s.facts.cold event other awake) stays silent)) rows

    by : (event : Event) → (s.facts.cold ≡ true → event ≡ events.Start) → (outcome r s event).is_silent ≡ true → AllByRecursion Row (outcome r s event).after.labels
    by (events.Arrive a) = kept (events.Arrive a) (λ e. cc) (λ e. cc)
    by (events.Relay m) = kept (events.Relay m) (λ e. cc) (λ e. cc)
    by (events.Tick n) = kept (events.Tick n) (λ e. cc) (λ e. cc)
    by (events.LinkUp number) = kept (events.LinkUp number) (λ e. cc) (λ e. cc)
    by (events.LinkDown number) = kept (events.LinkDown number) (λ e. cc) (λ e. cc)
    by (events.Command c) = kept (events.Command c) (λ e. cc) (λ e. cc)
    by events.Restart = λ awake silent. tt
    by events.Start = λ awake silent. rows

module _ (r : Router) (before after : State) (made : Made) (router : IsRouter r) (is : IsSound r before) (x : Step r before made after) where
  abbrev o : Outcome
  o = outcome r before made.event

  abbrev Row : Key × ℕ → Type 0
  Row = WasOrChosen before.labels made.labels

  were : AllByRecursion Row before.labels
  were = all-weaker (λ (row : Key × ℕ). find key_cmp row.0 before.labels ≡ Some row.1) Row (λ row found. inl found) before.labels (all_found key_cmp key_total before.labels (labels_in_order r before is.labels is.paths.paths.in_order))

  all_are : AllByRecursion Row after.labels
  unfolding repaired repairs_left taken_over
  all_are = subst (λ (t : State). AllByRecursion Row t.labels) (sym x.changed) (by o.is_silent refl (outcome-leaves r before made.event router is x.possible x.awake))
    where
      by : (silent : Bool) → o.is_silent ≡ silent → LeavesBy r before silent o.after → AllByRecursion Row (if silent then o.after else with_moments r before o (settled r made.labels o.after)).labels
      by true silent leaves = silent-were r before made.event Row x.awake silent were
      by false loud drafted =
          subst (λ labels. AllByRecursion Row (labels_after labels made.labels (taken_over r o.after).facts.paths)) (sym drafted.labels) (after-were before.labels made.labels (taken_over r o.after).facts.paths)

pub held_or_chosen : (r : Router) (before after : State) (made : Made) (key : Key) (label : ℕ) → IsRouter r → IsSound r before → Step r before made after → find key_cmp key after.labels ≡ Some label
    → (find key_cmp key before.labels ≡ Some label) ⊎ (find key_cmp key made.labels ≡ Some label)
held_or_chosen r before after made key label router is x found =
    subst (λ (o : Option ℕ). IfSome o (λ l. WasOrChosen before.labels made.labels (key, l))) found (find-all_row key_cmp key_exact (WasOrChosen before.labels made.labels) key after.labels (all_are r before after made router is x))

-- Which LSP holds which label, in a sound state and from one step to the next.
use Rattle.std.specs.Prelude.{◌≡◌, ◌≢◌, ◌≤◌, ◌⊎◌, ℕ, Bool, true, false, not, Option, Some, None, is_some}
use Rattle.std.specs.Bool.{then_some}
use Rattle.std.specs.FinMap.Entries.{find}
use Rattle.std.specs.Option.{option_and_then, option_map_or}
use Rattle.std.specs.Ordering.{nat_cmp}
use Rattle.std.proofs.Common.{refl, sym, ap, ◌∙◌, inl, inr}
use Rattle.sorted_rows.specs.RowsLaws.{find-filter, is_some-find_both}
use Rattle.lsr_facts.specs.Lifetimes.{begins_here}
use Rattle.lsr_facts.specs.OrderLaws.{key_total}
use Rattle.lsr_facts.specs.Orders.{key_cmp}
use Rattle.lsr_facts.specs.Routers.{IsRouter}
use Rattle.lsr_facts.specs.declared.key.Key.{Key}
use Rattle.lsr_facts.specs.declared.path_fact.PathFact.{PathFact}
use Rattle.lsr_facts.specs.declared.router.Router.{Router}
use Rattle.label_space.specs.BindingLaws.{free-awake, free-unheld}
use Rattle.label_space.specs.FreeLabels.{is_held}
use Rattle.abstract_paths.specs.declared.events.Event.TheVariants as events
use Rattle.abstract_paths.specs.declared.events.Made.{Made}
use Rattle.router_soundness.proofs.Resting.{held_is, holds_on}
use Rattle.abstract_router.specs.Arrivals.{outcome}
use Rattle.abstract_router.specs.Labels.{MayBeGiven, is_labelled}
use Rattle.abstract_router.specs.Soundness.{IsSound}
use Rattle.abstract_router.specs.States.{State}
use Rattle.abstract_router.specs.Steps.{Step, known_after}
use Rattle.router_laws.proofs.Rested.{MovesLabels, cases_restart, moves_labels}

-- ---- in a sound state

module _ (r : Router) (s : State) (is : IsSound r s) (key : Key) where
  -- an LSP has a label where it doesn't begin here
  has_label : is_some (find key_cmp key s.labels) ≡ is_labelled s.facts.paths key
  has_label =
      is_some-find_both key_cmp key s.labels _ is.labels.of_lsps
      ∙ ap is_some (find-filter key_cmp key_total (λ path. not (begins_here path.1.role)) key (λ k v tied. refl) s.facts.paths is.paths.paths.in_order)
      ∙ by (find key_cmp key s.facts.paths)
    where
      by : (o : Option PathFact) → is_some (option_and_then (λ path. then_some (not (begins_here path.role)) path) o) ≡ option_map_or (λ path. not (begins_here path.role)) o false
      by None = refl
      by (Some path) = elim (not (begins_here path.role)) as (λ b. is_some (then_some b path) ≡ b) [ true ↦ refl | false ↦ refl ]

  -- One that doesn't begin here holds a label,
  pub holds_label : (path : PathFact) → find key_cmp key s.facts.paths ≡ Some path → begins_here path.role ≡ false → (label : ℕ) × (find key_cmp key s.labels ≡ Some label)
  holds_label path known goes =
      by (find key_cmp key s.labels) refl (has_label ∙ ap (λ o. option_map_or (λ path. not (begins_here path.role)) o false) known ∙ ap not goes)
    where
      by : (o : Option ℕ) → find key_cmp key s.labels ≡ o → is_some o ≡ true → (label : ℕ) × (find key_cmp key s.labels ≡ Some label)
      by None at some = absurd (let e = some in cc)
      by (Some label) at some = (label, at)

  -- and nobody else.
  pub label_of_path : (label : ℕ) → find key_cmp key s.labels ≡ Some label → (path : PathFact) × (find key_cmp key s.facts.paths ≡ Some path) × (begins_here path.role ≡ false)
  label_of_path label held = by (find key_cmp key s.facts.paths) refl (sym has_label ∙ ap is_some held)
    where
      role : (path : PathFact) → (b : Bool) → begins_here path.role ≡ b → not b ≡ true → begins_here path.role ≡ false
      role path true at goes = absurd (let e = goes in cc)
      role path false at goes = at

      by : (o : Option PathFact) → find key_cmp key s.facts.paths ≡ o → option_map_or (λ path. not (begins_here path.role)) o false ≡ true → (path : PathFact) × (find key_cmp key s.facts.paths ≡ Some path) × (begins_here path.role ≡ false)
      by None at goes = absurd (let e = goes in cc)
      by (Some path) at goes = (path, at, role path (begins_here path.role) refl goes)

-- ---- from one step to the next

module _ (r : Router) (before after : State) (made : Made) (key : Key) (label : ℕ) (router : IsRouter r) (is : IsSound r before) (x : Step r before made after) where
  -- what a restart leaves
  restarted : made.event ≡ events.Restart → after ≡ known_after r before made.labels (outcome r before events.Restart)
  restarted restart = x.changed ∙ ap (λ event. known_after r before made.labels (outcome r before event)) restart

  -- An LSP keeps its label for as long as it has a path that doesn't begin here.
  pub label_stays : (path : PathFact) → find key_cmp key before.labels ≡ Some label → find key_cmp key after.facts.paths ≡ Some path → begins_here path.role ≡ false → find key_cmp key after.labels ≡ Some label
  label_stays path held known goes = by (cases_restart made.event)
    where
      by_moves : MovesLabels r before after → find key_cmp key after.labels ≡ Some label
      by_moves (inl keeps) = ap (find key_cmp key) keeps.labels ∙ held
      by_moves (inr gives) =
          ap (find key_cmp key) gives.labels
          ∙ holds_on r before gives.chosen gives.paths gives.in_order gives.may key label held
          (ap (λ paths. is_labelled paths key) (sym gives.known) ∙ ap (λ o. option_map_or (λ path. not (begins_here path.role)) o false) known ∙ ap not goes)

      by : (made.event ≡ events.Restart) ⊎ (made.event ≢ events.Restart) → find key_cmp key after.labels ≡ Some label
      by (inl restart) = absurd (let e = sym known ∙ ap (λ (s : State). find key_cmp key s.facts.paths) (restarted restart) in cc)
      by (inr other) = by_moves (moves_labels r before made after router is x other)

  -- One that it hasn't before may be given.
  new_may_be_given : find key_cmp key before.labels ≢ Some label → find key_cmp key after.labels ≡ Some label → MayBeGiven r before.labels before.resting label
  new_may_be_given new held = by (cases_restart made.event)
    where
      by_moves : MovesLabels r before after → MayBeGiven r before.labels before.resting label
      by_moves (inl keeps) = absurd (new (ap (find key_cmp key) (sym keeps.labels) ∙ held))
      by_moves (inr gives) =
          old_or_new (held_is r before gives.chosen gives.paths gives.in_order gives.may key label (ap (find key_cmp key) (sym gives.labels) ∙ held)).is
        where
          old_or_new : (find key_cmp key before.labels ≡ Some label) ⊎ MayBeGiven r before.labels before.resting label → MayBeGiven r before.labels before.resting label
          old_or_new (inl was) = absurd (new was)
          old_or_new (inr may) = may

      by : (made.event ≡ events.Restart) ⊎ (made.event ≢ events.Restart) → MayBeGiven r before.labels before.resting label
      by (inl restart) = absurd (let e = sym held ∙ ap (λ (s : State). find key_cmp key s.labels) (restarted restart) in cc)
      by (inr other) = by_moves (moves_labels r before made after router is x other)

  -- So it was free.
  pub new_was_free : find key_cmp key before.labels ≢ Some label → find key_cmp key after.labels ≡ Some label
      → (r.labels.first ≤ label) × (label ≤ r.labels.last) × (is_held before.labels label ≡ false) × (find nat_cmp label before.resting ≡ None)
  new_was_free new held =
      let may = new_may_be_given new held in
      (may.from_first, may.to_last, free-unheld before.labels before.resting label may.free, free-awake before.labels before.resting label may.free)

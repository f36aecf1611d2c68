-- A step finds labels to choose.
use Rattle.std.specs.Prelude.{◌≡◌, ℕ, ◌+◌, ◌-◌, ◌<◌, ◌≤◌, ◌||◌, Bool, zero, suc, true, false, not, T, List, [], ◌∷◌, filter, is_some, ◌⊎◌}
use Rattle.std.specs.FinMap.Entries.{find, is_sorted}
use Rattle.std.specs.List.{AllByRecursion, IsDistinct, list_any, range_with_len}
use Rattle.std.proofs.Common.{refl, sym, ◌∙◌, inl, inr, arith}
use Rattle.sorted_rows.specs.ListLaws.{all-weaker}
use Rattle.sorted_rows.specs.RowsLaws.{all_kept, is_some-find_both}
use Rattle.lsr_facts.specs.Lifetimes.{begins_here}
use Rattle.lsr_facts.specs.OrderLaws.{key_total}
use Rattle.lsr_facts.specs.Orders.{key_cmp}
use Rattle.lsr_facts.specs.declared.key.Key.{Key}
use Rattle.lsr_facts.specs.declared.path_fact.PathFact.{PathFact}
use Rattle.lsr_facts.specs.declared.router.Router.{Router}
use Rattle.abstract_router.specs.Choosing.{CanLabel, HasLabel}
use Rattle.abstract_router.specs.ChoosingLaws.{new_keys-few}
use Rattle.label_space.specs.FreeLabels.{MayBeGiven, has_free_label, is_free}
use Rattle.abstract_router.specs.Labels.{IsLabelling, new_keys}
use Rattle.abstract_router.specs.Soundness.{AreLabelled}
use Rattle.abstract_router.specs.States.{State}

-- in a sound state each path has its label
pub each_has : (r : Router) (s : State) → AreLabelled r s → T (is_sorted key_cmp s.facts.paths) → AllByRecursion (HasLabel s.labels) s.facts.paths
each_has r s are sorted =
    let ours = λ (path : Key × PathFact). not (begins_here path.1.role) in
    all-weaker (λ path. is_some (find key_cmp path.0 (filter ours s.facts.paths)) ≡ ours path) (HasLabel s.labels)
    (λ path kept ours_too. is_some-find_both key_cmp path.0 s.labels (filter ours s.facts.paths) are.of_lsps ∙ kept ∙ ours_too)
    s.facts.paths (all_kept key_cmp key_total ours s.facts.paths sorted)

-- a label of a range that passes a test
found_in : (p : ℕ → Bool) (from count : ℕ) → list_any p (range_with_len from count) ≡ true → (label : ℕ) × (from ≤ label) × (label < from + count) × (p label ≡ true)
found_in p from zero any = absurd (let e = any in cc)
found_in p from (suc count) any =
    elim (p from) as (λ b. p from ≡ b → (b || list_any p (range_with_len (from + 1) count)) ≡ true → (label : ℕ) × (from ≤ label) × (label < from + suc count) × (p label ≡ true)) [
      | true ↦ λ passes. λ h. (from, omega arith, omega arith, passes)
      | false ↦ λ fails. λ h. let rest = found_in p (from + 1) count h in (rest.0, omega (arith, rest.1), omega (arith, rest.2), rest.3)
    ] refl any

-- where a label is free, it may be given
free_label : (r : Router) (before : State) → r.labels.first ≤ r.labels.last → has_free_label r before.labels before.resting ≡ true → (label : ℕ) × MayBeGiven r before.labels before.resting label
unfolding has_free_label
free_label r before some free =
    let found = found_in (is_free before.labels before.resting) r.labels.first (r.labels.last + 1 - r.labels.first) free in
    (found.0, record { from_first = found.1; to_last = omega (arith, found.2, some); free = found.3 })

-- Labels can be chosen.
pub labels_to_choose : (r : Router) (before : State) (paths : List (Key × PathFact)) → r.labels.first ≤ r.labels.last → T (is_sorted key_cmp paths) → CanLabel r before paths → (chosen : List (Key × ℕ)) × IsLabelling r before paths chosen
unfolding IsDistinct
labels_to_choose r before paths some sorted can = by (new_keys-few r before paths sorted can)
  where
    given : (key : Key) → new_keys before.labels paths ≡ key ∷ [] → ((label : ℕ) × MayBeGiven r before.labels before.resting label) → (chosen : List (Key × ℕ)) × IsLabelling r before paths chosen
    given key one label = ((key, label.0) ∷ [], record { of_new = sym one; given = (label.1, tt); apart = (tt, tt) })

    by : ((new_keys before.labels paths ≡ []) ⊎ ((key : Key) × (new_keys before.labels paths ≡ key ∷ []) × (has_free_label r before.labels before.resting ≡ true))) → (chosen : List (Key × ℕ)) × IsLabelling r before paths chosen
    by (inl none) = ([], record { of_new = sym none; given = tt; apart = tt })
    by (inr one) = given one.0 one.1 (free_label r before some one.2)

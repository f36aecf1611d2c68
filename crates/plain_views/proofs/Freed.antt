-- The first free label of a router's range may be given, and is found where one is free.
use Rattle.std.specs.Prelude.{◌≡◌, ◌+◌, ◌-◌, ◌||◌, ◌<◌, ◌≤◌, ℕ, Bool, true, false, cond, List, [], ◌∷◌, Option, Some, None, IfSome, is_some}
use Rattle.std.specs.List.{find, list_any, range_with_len}
use Rattle.std.proofs.Common.{refl, ap, arith, zero, suc, ◌∙◌}
use Rattle.lsr_facts.specs.declared.key.Key.{Key}
use Rattle.lsr_facts.specs.declared.router.Router.{Router}
use Rattle.label_space.specs.FreeLabels.{MayBeGiven, has_free_label, is_free, labels_in}

module _ (test : ℕ → Bool) (from last : ℕ) where
  -- what is found of the numbers after this one
  abbrev after : Option ℕ
  after = find test (range_with_len (from + 1) (last + 1 - (from + 1)))

  -- what is found of a number and those after it, by whether it passes
  next : from ≤ last → find test (range_with_len from (last + 1 - from)) ≡ cond (test from) (Some from) after
  next within =
      let more : last + 1 - from ≡ suc (last + 1 - (from + 1)) = omega (arith, within) in
      ap (λ count. find test (range_with_len from count)) more

  -- That one is found where it passes,
  pub found_free : from ≤ last → test from ≡ true → find test (range_with_len from (last + 1 - from)) ≡ Some from
  found_free within passes = next within ∙ ap (λ b. cond b (Some from) after) passes

  -- and else what is found of those after it,
  pub found_held : from ≤ last → test from ≡ false → find test (range_with_len from (last + 1 - from)) ≡ after
  found_held within fails = next within ∙ ap (λ b. cond b (Some from) after) fails

  -- which is nothing where it is the last.
  pub found_last : last ≤ from → test from ≡ false → find test (range_with_len from (last + 1 - from)) ≡ None
  found_last within fails = by (last + 1 - from) (omega (arith, within))
    where
      by : (count : ℕ) → count ≤ 1 → find test (range_with_len from count) ≡ None
      by zero few = refl
      by (suc zero) few = ap (λ b. cond b (Some from) None) fails
      by (suc (suc count)) few = absurd (omega (arith, few))

-- something is found where something passes the test
is_some-find : (test : ℕ → Bool) (numbers : List ℕ) → is_some (find test numbers) ≡ list_any test numbers
is_some-find test [] = refl
is_some-find test (n ∷ numbers) =
    let rest = is_some-find test numbers in
    elim (test n) as (λ b. is_some (cond b (Some n) (find test numbers)) ≡ (b || list_any test numbers)) [ true ↦ refl | false ↦ rest ]

-- so a label is found where one is free
pub is_found : (r : Router) (labels : List (Key × ℕ)) (resting : List (ℕ × ℕ)) → is_some (find (is_free labels resting) (labels_in r.labels)) ≡ has_free_label r labels resting
unfolding has_free_label
is_found r labels resting = is_some-find (is_free labels resting) (labels_in r.labels)

-- What is found of numbers from one on is one of them, and passes.
found_in : (test : ℕ → Bool) (count from end : ℕ) → from + count ≤ end → IfSome (find test (range_with_len from count)) (λ n. (from ≤ n) × (n < end) × (test n ≡ true))
found_in test zero from end within = tt
found_in test (suc count) from end within =
    let rest = found_in test count (from + 1) end (omega (arith, within)) in
    elim (test from) as (λ b. test from ≡ b → IfSome (cond b (Some from) (find test (range_with_len (from + 1) count))) (λ n. (from ≤ n) × (n < end) × (test n ≡ true))) [
      | true ↦ λ passes. (omega arith, omega (arith, within), passes)
      | false ↦ λ fails. further (find test (range_with_len (from + 1) count)) rest
    ] refl
  where
    further : (found : Option ℕ) → IfSome found (λ n. (from + 1 ≤ n) × (n < end) × (test n ≡ true)) → IfSome found (λ n. (from ≤ n) × (n < end) × (test n ≡ true))
    further None is = tt
    further (Some n) is = (omega (arith, is.0), is.1, is.2)

-- and may be given
pub may_be_given : (r : Router) (labels : List (Key × ℕ)) (resting : List (ℕ × ℕ)) → IfSome (find (is_free labels resting) (labels_in r.labels)) (MayBeGiven r labels resting)
may_be_given r labels resting =
    by (find (is_free labels resting) (labels_in r.labels)) (found_in (is_free labels resting) (r.labels.last + 1 - r.labels.first) r.labels.first (r.labels.first + (r.labels.last + 1 - r.labels.first)) (omega arith))
  where
    by : (found : Option ℕ) → IfSome found (λ n. (r.labels.first ≤ n) × (n < r.labels.first + (r.labels.last + 1 - r.labels.first)) × (is_free labels resting n ≡ true)) → IfSome found (MayBeGiven r labels resting)
    by None is = tt
    by (Some n) is = record { from_first = is.0; to_last = omega (arith, is.0, is.1); free = is.2 }

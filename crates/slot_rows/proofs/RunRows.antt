-- The rows that compare as equal with what is sought stand together.
use Rattle.std.proofs.Common.{◌≡◌, ℕ, zero, suc, ◌<◌, ◌≤◌, ◌&&◌, T, Bool, true, false, cond, List, [], ◌∷◌, length, get_or, drop, Option, Some, None, refl, sym, ap, ◌∙◌, arith}
use Rattle.std.specs.FinMap.Entries.{is_sorted}
use Rattle.std.specs.List.{AllByRecursion, find, slice_get}
use Rattle.std.specs.List.Sorted.{IsNonDecreasingBy, IsPartitionedBy}
use Rattle.std.specs.Ordering.{is_eq, is_lt, ordering_index}
use Rattle.std.specs.declared.cmp.Ordering.{Ordering}
use Rattle.std.specs.declared.cmp.Ordering.TheVariants.{Less, Equal, Greater}
use Rattle.sorted_rows.specs.RowsLaws.{all-below, first, second}
use Rattle.slot_rows.specs.Runs.{RisesBy}

module _ {R : Type 0} (q : R → Bool) where
  -- rows that fail a test may be left out in front
  pub skipped : (rows : List R) (i : ℕ) → i ≤ length rows → ((k : ℕ) (d : R) → k < i → q (get_or rows k d) ≡ false) → find q (drop i rows) ≡ find q rows
  skipped rows zero within fails = refl
  skipped [] (suc i) within fails = absurd (omega (arith, within))
  skipped (row ∷ rows) (suc i) within fails =
      skipped rows i (omega (arith, within)) (λ k d below. fails (suc k) d (omega (arith, below)))
      ∙ ap (λ b. cond b (Some row) (find q rows)) (sym (fails 0 row (omega arith)))

  -- none is found where all from a place on fail
  pub none_from : (rows : List R) (i : ℕ) → ((k : ℕ) (d : R) → i ≤ k → k < length rows → q (get_or rows k d) ≡ false) → find q (drop i rows) ≡ None
  none_from [] zero fails = refl
  none_from [] (suc i) fails = refl
  none_from (row ∷ rows) zero fails =
      ap (λ b. cond b (Some row) (find q rows)) (fails 0 row (omega arith) (omega arith))
      ∙ none_from rows zero (λ k d from below. fails (suc k) d (omega arith) (omega (arith, below)))
  none_from (row ∷ rows) (suc i) fails = none_from rows i (λ k d from below. fails (suc k) d (omega (arith, from)) (omega (arith, below)))

  -- the row at a place, and those after it
  pub next_row : (rows : List R) (i : ℕ) (row : R) → slice_get rows i ≡ Some row → find q (drop i rows) ≡ cond (q row) (Some row) (find q (drop (suc i) rows))
  next_row [] i row is = cc
  next_row (other ∷ rows) zero row is =
      let same : other ≡ row = cc in
      ap (λ r. cond (q r) (Some r) (find q rows)) same
  next_row (other ∷ rows) (suc i) row is = next_row rows i row is

-- the row at a place by its number
pub got : {R : Type 0} (rows : List R) (i : ℕ) (row d : R) → slice_get rows i ≡ Some row → get_or rows i d ≡ row
got [] i row d is = cc
got (other ∷ rows) zero row d is = cc
got (other ∷ rows) (suc i) row d is = got rows i row d is

pub got_within : {R : Type 0} (rows : List R) (i : ℕ) → ◌≡◌ {A = Option R} (slice_get rows i) None → i < length rows → ⊥
got_within [] i is within = absurd (omega (arith, within))
got_within (other ∷ rows) zero is within = cc
got_within (other ∷ rows) (suc i) is within = got_within rows i is (omega (arith, within))

-- what isn't less stands after what is
low_first : (a b : Ordering) → ordering_index a ≤ ordering_index b → is_lt b ≡ true → is_lt a ≡ true
low_first Less b up low = refl
low_first Equal Less up low = absurd (omega (arith, up))
low_first Equal Equal up low = low
low_first Equal Greater up low = low
low_first Greater Less up low = absurd (omega (arith, up))
low_first Greater Equal up low = low
low_first Greater Greater up low = low

-- past one that is neither less nor equal none is equal
past_all : (a b : Ordering) → ordering_index a ≤ ordering_index b → is_lt a ≡ false → is_eq a ≡ false → is_eq b ≡ false
past_all Less b up not_less not_equal = cc
past_all Equal b up not_less not_equal = cc
past_all Greater Less up not_less not_equal = refl
past_all Greater Equal up not_less not_equal = absurd (omega (arith, up))
past_all Greater Greater up not_less not_equal = refl

apart : (a b : Bool) → a ≡ false → (a && b) ≡ false
apart a b is = ap (λ x. x && b) is

before_run : (o : Ordering) → is_lt o ≡ true → is_eq o ≡ false
before_run Less low = refl
before_run Equal low = cc
before_run Greater low = refl

-- what passes of the rows that compare as equal
abbrev pub in_run : {K X : Type 0} → (K → Ordering) → (K × X → Bool) → K × X → Bool
in_run compares passes row = is_eq (compares row.0) && passes row

module _ {K X : Type 0} (cmp : K → K → Ordering) (compares : K → Ordering) (rises : RisesBy cmp compares) where
  above : (e : K × X) (es : List (K × X)) → AllByRecursion (λ row. cmp e.0 row.0 ≡ Less) es → (j : ℕ) (d : K × X) → j < length es → ordering_index (compares e.0) ≤ ordering_index (compares (get_or es j d).0)
  above e [] low j d within = absurd (omega (arith, within))
  above e (row ∷ es) low zero d within = rises e.0 row.0 low.0
  above e (row ∷ es) low (suc j) d within = above e es low.1 j d (omega (arith, within))

  -- rows in order don't fall
  pub rows_rise : (rows : List (K × X)) → T (is_sorted cmp rows) → IsNonDecreasingBy (λ row. ordering_index (compares row.0)) rows
  rows_rise [] sorted i j d below within = absurd (omega (arith, within))
  rows_rise (e ∷ es) sorted zero zero d below within = omega arith
  rows_rise (e ∷ es) sorted zero (suc j) d below within = above e es (all-below cmp e.0 es (first _ _ sorted)) j d (omega (arith, within))
  rows_rise (e ∷ es) sorted (suc i) zero d below within = absurd (omega (arith, below))
  rows_rise (e ∷ es) sorted (suc i) (suc j) d below within = rows_rise es (second _ _ sorted) i j d (omega (arith, below)) (omega (arith, within))

  pub rows_parted : (rows : List (K × X)) → T (is_sorted cmp rows) → IsPartitionedBy (λ row. is_lt (compares row.0)) rows
  rows_parted rows sorted i j d below within low = low_first _ _ (rows_rise rows sorted i j d below within) low

  module _ (passes : K × X → Bool) (rows : List (K × X)) where
    abbrev sought : K × X → Bool
    sought = in_run compares passes

    -- the search may begin at the first that isn't less
    pub run_begins : (i : ℕ) → i ≤ length rows → ((k : ℕ) (d : K × X) → 0 ≤ k → k < i → is_lt (compares (get_or rows k d).0) ≡ true) → find (in_run compares passes) (drop i rows) ≡ find (in_run compares passes) rows
    run_begins i within low = skipped sought rows i within (λ k d below. apart _ _ (before_run _ (low k d (omega arith) below)))

    -- and end at one that is greater
    pub run_ends : T (is_sorted cmp rows) → (i : ℕ) (row : K × X) → slice_get rows i ≡ Some row → i < length rows → ((k : ℕ) (d : K × X) → i ≤ k → k < length rows → is_lt (compares (get_or rows k d).0) ≡ false) → is_eq (compares row.0) ≡ false → find (in_run compares passes) (drop i rows) ≡ None
    run_ends sorted i row is within high not_equal = none_from sought rows i (λ k d from below.
        let up : ordering_index (compares row.0) ≤ ordering_index (compares (get_or rows k d).0) = omega (arith, rows_rise rows sorted i k d from below, ap (λ (r : K × X). ordering_index (compares r.0)) (got rows i row d is)) in
        let not_less : is_lt (compares row.0) ≡ false = sym (ap (λ (r : K × X). is_lt (compares r.0)) (got rows i row row is)) ∙ high i row (omega arith) within in
        apart _ _ (past_all (compares row.0) _ up not_less not_equal))

-- The rows of labels so far, one label after the other.
use Rattle.std.proofs.Common.{◌≡◌, ◌⊎◌, ℕ, ◌+◌, ◌<◌, ◌≤◌, nat_lt, Bool, true, false, cond, T, List, [], ◌∷◌, ◌++◌, Option, Some, None, refl, sym, ap, ◌∙◌, inl, inr, arith}
use Rattle.std.specs.FinMap.Entries.{find, is_sorted}
use Rattle.std.specs.List.{AllByRecursion, filter}
use Rattle.std.specs.Option.{option_map_or}
use Rattle.std.specs.Ordering.{eq_by_cmp, is_eq, nat_cmp}
use Rattle.std.specs.declared.cmp.Ordering.TheVariants.{Less}
use Rattle.std.proofs.lemmas.Bool.{cases_order, false_from_ne_true, le-ltb, lt-ltb}
use Rattle.std.proofs.lemmas.Cmp.{nat_cmp_total, ranked, tied_itself}
use Rattle.std.proofs.lemmas.Map.Lookups.{exact_unsigned}
use Rattle.sorted_rows.specs.ListLaws.{all-from_map, all-weaker, filter-all_pass}
use Rattle.sorted_rows.specs.Rows.{keys_of}
use Rattle.sorted_rows.specs.RowsLaws.{all-below, first, second, ties}
use Rattle.label_space.specs.Bindings.{by_label}
use Rattle.label_space.specs.Labels.{IsLabelSpace, IsOf, Labels}
use Rattle.label_space.specs.LineLaws.{all-parts}
use Rattle.label_space.specs.RestLaws.{all-by_label}

-- the rows of labels below this one
abbrev pub rows_below : ℕ → List (ℕ × ℕ) → List (ℕ × ℕ)
rows_below label rows = filter (λ row. nat_lt row.0 label) rows

-- a row, if a label rests
abbrev pub row_at : ℕ → Option ℕ → List (ℕ × ℕ)
row_at label until = option_map_or (λ u. (label, u) ∷ []) until []

-- no row is below a label that is at most each
pub none_below : (label : ℕ) (rows : List (ℕ × ℕ)) → AllByRecursion (λ row. label ≤ row.0) rows → rows_below label rows ≡ []
none_below label [] above = refl
none_below label (row ∷ rows) above =
    ap (λ b. cond b (row ∷ rows_below label rows) (rows_below label rows)) (le-ltb row.0 label above.0) ∙ none_below label rows above.1

-- behind the first all are more
above_first : (row : ℕ × ℕ) (rows : List (ℕ × ℕ)) → T (is_sorted nat_cmp (row ∷ rows)) → AllByRecursion (λ other. row.0 < other.0) rows
above_first row rows sorted =
    all-weaker (λ other. nat_cmp row.0 other.0 ≡ Less) (λ other. row.0 < other.0) (λ other less. ranked row.0 other.0 Less (sym less)) rows (all-below nat_cmp row.0 rows (first _ _ sorted))

-- two labels that differ don't tie
differs : (a b : ℕ) → (a ≡ b → ⊥) → eq_by_cmp nat_cmp a b ≡ false
differs a b apart = false_from_ne_true (eq_by_cmp nat_cmp a b) (λ tie. apart (exact_unsigned a b (ties (nat_cmp a b) tie)))

-- a label below each isn't found
none_found : (label : ℕ) (rows : List (ℕ × ℕ)) → AllByRecursion (λ row. label < row.0) rows → find nat_cmp label rows ≡ None
none_found label [] above = refl
none_found label (row ∷ rows) above =
    let more : label < row.0 = above.0 in
    ap (λ b. cond b (Some row.1) (find nat_cmp label rows)) (differs label row.0 (λ same. absurd (omega (arith, same, more)))) ∙ none_found label rows above.1

-- One label more.
pub rows_next : (rows : List (ℕ × ℕ)) (label : ℕ) → T (is_sorted nat_cmp rows) → rows_below (label + 1) rows ≡ rows_below label rows ++ row_at label (find nat_cmp label rows)
rows_next [] label sorted = refl
rows_next (row ∷ rows) label sorted =
    let above = above_first row rows sorted in
    elim (cases_order row.0 label) [
      | inl same ↦
          let later = all-weaker (λ (other : ℕ × ℕ). row.0 < other.0) (λ (other : ℕ × ℕ). label + 1 ≤ other.0) (λ other more. omega (arith, same, more)) rows above in
          let none = all-weaker (λ (other : ℕ × ℕ). row.0 < other.0) (λ (other : ℕ × ℕ). label ≤ other.0) (λ other more. omega (arith, same, more)) rows above in
          let tie : eq_by_cmp nat_cmp label row.0 ≡ true = ap (eq_by_cmp nat_cmp label) same ∙ ap is_eq (tied_itself nat_cmp_total label) in
          rw (lt-ltb row.0 (label + 1) (omega (arith, same)), le-ltb row.0 label (omega (arith, same)), tie)
          (ap (λ l. row ∷ l) (none_below (label + 1) rows later) ∙ ap (λ k. (k, row.1) ∷ []) same ∙ ap (λ l. l ++ (label, row.1) ∷ []) (sym (none_below label rows none)))
      | inr apart ↦ elim apart [
        | inl less ↦
            rw (lt-ltb row.0 (label + 1) (omega (arith, less)), lt-ltb row.0 label less, differs label row.0 (λ same. absurd (omega (arith, same, less)))) (ap (λ l. row ∷ l) (rows_next rows label (second _ _ sorted)))
        | inr more ↦
            let later = all-weaker (λ (other : ℕ × ℕ). row.0 < other.0) (λ (other : ℕ × ℕ). label + 1 ≤ other.0) (λ other further. omega (arith, more, further)) rows above in
            let none = all-weaker (λ (other : ℕ × ℕ). row.0 < other.0) (λ (other : ℕ × ℕ). label ≤ other.0) (λ other further. omega (arith, more, further)) rows above in
            let absent = all-weaker (λ (other : ℕ × ℕ). row.0 < other.0) (λ (other : ℕ × ℕ). label < other.0) (λ other further. omega (arith, more, further)) rows above in
            none_below (label + 1) (row ∷ rows) (omega (arith, more), later)
            ∙ (λ i. sym (none_below label (row ∷ rows) (omega (arith, more), none)) i ++ row_at label (sym (none_found label (row ∷ rows) (more, absent)) i))
      ]
    ]

-- labels that rest are of the range
pub rows_own : (labels : Labels) → IsLabelSpace labels → AllByRecursion (λ (row : ℕ × ℕ). IsOf labels.range row.0) (by_label labels.resting)
rows_own labels space =
    all-by_label (λ (row : ℕ × ℕ). IsOf labels.range row.0) labels.resting (all-from_map (IsOf labels.range) (λ (row : ℕ × ℕ). row.0) labels.resting (all-parts (IsOf labels.range) labels.free (keys_of labels.resting) space.own).1)

-- at last all of them
pub rows_all : (rows : List (ℕ × ℕ)) (label : ℕ) → AllByRecursion (λ row. row.0 < label) rows → rows_below label rows ≡ rows
rows_all rows label below =
    filter-all_pass (λ row. nat_lt row.0 label) rows (all-weaker (λ (row : ℕ × ℕ). row.0 < label) (λ row. nat_lt row.0 label ≡ true) (λ row less. lt-ltb row.0 label less) rows below)

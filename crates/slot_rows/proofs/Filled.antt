-- What `of` has at each of some places in order, and what stays of it after a change at one place.
use Rattle.std.proofs.Common.{◌≡◌, ◌≢◌, ℕ, zero, suc, ◌<◌, ◌≤◌, T, List, [], ◌∷◌, map, length, get_or, set, Option, Some, None, refl, sym, ap, ◌∙◌, arith}
use Rattle.std.specs.Cmp.{IsTotalOrder, tied_itself}
use Rattle.std.specs.FinMap.Entries.{is_sorted}
use Rattle.std.specs.List.{AllByRecursion, cons_option, filter_map, insert, remove, slice_get}
use Rattle.std.specs.declared.cmp.Ordering.{Ordering}
use Rattle.std.specs.declared.cmp.Ordering.TheVariants.{Less, Equal}
use Rattle.sorted_rows.specs.RowsLaws.{all-below, first, second}

module _ {R : Type 0} where
  -- what is there is what is read
  pub read : (of : ℕ → Option R) (order : List ℕ) (rows : List R) → map of order ≡ map Some rows → filter_map of order ≡ rows
  read of [] [] h = refl
  read of [] (row ∷ rows) h = cc
  read of (o ∷ order) [] h = cc
  read of (o ∷ order) (row ∷ rows) h =
      let here : of o ≡ Some row = cc in
      let rest : map of order ≡ map Some rows = cc in
      (λ i. cons_option (here i) (read of order rows rest i))

  pub length_read : (of : ℕ → Option R) (order : List ℕ) (rows : List R) → map of order ≡ map Some rows → length rows ≡ length order
  length_read of [] [] h = refl
  length_read of [] (row ∷ rows) h = cc
  length_read of (o ∷ order) [] h = cc
  length_read of (o ∷ order) (row ∷ rows) h =
      let rest : map of order ≡ map Some rows = cc in
      ap suc (length_read of order rows rest)

  -- the row at a place
  pub row_at : (of : ℕ → Option R) (order : List ℕ) (rows : List R) → map of order ≡ map Some rows → (i a : ℕ) (d : R) → i < length order → of (get_or order i a) ≡ Some (get_or rows i d)
  row_at of [] rows h i a d within = absurd (omega (arith, within))
  row_at of (o ∷ order) [] h i a d within = cc
  row_at of (o ∷ order) (row ∷ rows) h zero a d within = cc
  row_at of (o ∷ order) (row ∷ rows) h (suc i) a d within =
      let rest : map of order ≡ map Some rows = cc in
      row_at of order rows rest i a d (omega (arith, within))

  pub row_within : (of : ℕ → Option R) (order : List ℕ) (rows : List R) → map of order ≡ map Some rows → (i a : ℕ) → i < length order → of (get_or order i a) ≡ slice_get rows i
  row_within of [] rows h i a within = absurd (omega (arith, within))
  row_within of (o ∷ order) [] h i a within = cc
  row_within of (o ∷ order) (row ∷ rows) h zero a within = cc
  row_within of (o ∷ order) (row ∷ rows) h (suc i) a within =
      let rest : map of order ≡ map Some rows = cc in
      row_within of order rows rest i a (omega (arith, within))

  -- and past the end there is none
  pub row_past : (of : ℕ → Option R) (order : List ℕ) (rows : List R) → map of order ≡ map Some rows → (i : ℕ) → length order ≤ i → ◌≡◌ {A = Option R} None (slice_get rows i)
  row_past of [] [] h i past = refl
  row_past of [] (row ∷ rows) h i past = cc
  row_past of (o ∷ order) [] h i past = cc
  row_past of (o ∷ order) (row ∷ rows) h zero past = absurd (omega (arith, past))
  row_past of (o ∷ order) (row ∷ rows) h (suc i) past =
      let rest : map of order ≡ map Some rows = cc in
      row_past of order rows rest i (omega (arith, past))

  -- a place that has nothing is none of those that have something
  pub none_among : (of : ℕ → Option R) (s : ℕ) → of s ≡ None → (order : List ℕ) (rows : List R) → map of order ≡ map Some rows → AllByRecursion (λ o. o ≢ s) order
  none_among of s none [] rows h = tt
  none_among of s none (o ∷ order) [] h = cc
  none_among of s none (o ∷ order) (row ∷ rows) h =
      let here : of o ≡ Some row = cc in
      let rest : map of order ≡ map Some rows = cc in
      ((λ same. let is : of s ≡ Some row = sym (ap of same) ∙ here in cc), none_among of s none order rows rest)

  -- where the changed place is none of them, nothing changes
  pub stays : (of now : ℕ → Option R) (s : ℕ) → ((o : ℕ) → o ≢ s → now o ≡ of o) → (order : List ℕ) → AllByRecursion (λ o. o ≢ s) order → map now order ≡ map of order
  stays of now s others [] apart = refl
  stays of now s others (o ∷ order) apart = λ i. others o apart.0 i ∷ stays of now s others order apart.1 i

  -- a place that had nothing comes among them
  pub inserted : (of now : ℕ → Option R) (s : ℕ) (new : R) → of s ≡ None → now s ≡ Some new → ((o : ℕ) → o ≢ s → now o ≡ of o) → (order : List ℕ) (rows : List R) → map of order ≡ map Some rows → (i : ℕ) → i ≤ length order → map now (insert order i s) ≡ map Some (insert rows i new)
  inserted of now s new none some others [] [] h zero within = ap (λ o. o ∷ []) some
  inserted of now s new none some others [] [] h (suc i) within = absurd (omega (arith, within))
  inserted of now s new none some others [] (row ∷ rows) h i within = cc
  inserted of now s new none some others (o ∷ order) [] h i within = cc
  inserted of now s new none some others (o ∷ order) (row ∷ rows) h zero within =
      let apart = none_among of s none (o ∷ order) (row ∷ rows) h in
      λ i. some i ∷ (stays of now s others (o ∷ order) apart ∙ h) i
  inserted of now s new none some others (o ∷ order) (row ∷ rows) h (suc i) within =
      let here : of o ≡ Some row = cc in
      let rest : map of order ≡ map Some rows = cc in
      let apart = none_among of s none (o ∷ order) (row ∷ rows) h in
      λ j. (others o apart.0 ∙ here) j ∷ inserted of now s new none some others order rows rest i (omega (arith, within)) j

module _ {K X : Type 0} (cmp : K → K → Ordering) (total : IsTotalOrder cmp) where
  -- rows above another lie at other places
  pub above_apart : (of : ℕ → Option (K × X)) (s : ℕ) (row : K × X) → of s ≡ Some row → (order : List ℕ) (rows : List (K × X)) → map of order ≡ map Some rows → AllByRecursion (λ other. cmp row.0 other.0 ≡ Less) rows → AllByRecursion (λ o. o ≢ s) order
  above_apart of s row some [] rows h above = tt
  above_apart of s row some (o ∷ order) [] h above = cc
  above_apart of s row some (o ∷ order) (other ∷ rows) h above =
      let here : of o ≡ Some other = cc in
      let rest : map of order ≡ map Some rows = cc in (
        (λ same.
            let both : Some row ≡ Some other = sym some ∙ sym (ap of same) ∙ here in
            let is : row ≡ other = cc in
            let low : cmp row.0 other.0 ≡ Less = above.0 in
            let tie : cmp row.0 other.0 ≡ Equal = ap (λ r. cmp row.0 r.0) (sym is) ∙ tied_itself total row.0 in
            cc),
        above_apart of s row some order rows rest above.1,
      )

  -- nor does the row at a later place lie where the first does
  before_apart : (of : ℕ → Option (K × X)) (o : ℕ) (row : K × X) (order : List ℕ) (rows : List (K × X)) → of o ≡ Some row → map of order ≡ map Some rows → T (is_sorted cmp (row ∷ rows)) → (i s : ℕ) → i < length order → get_or order i 0 ≡ s → o ≢ s
  before_apart of o row order rows here rest sorted i s within at = λ same.
      each_apart order (above_apart of o row here order rows rest (all-below cmp row.0 rows (first _ _ sorted))) i within (at ∙ sym same)
    where
      each_apart : (order : List ℕ) → AllByRecursion (λ p. p ≢ o) order → (i : ℕ) → i < length order → get_or order i 0 ≢ o
      each_apart [] apart i within = absurd (omega (arith, within))
      each_apart (p ∷ order) apart zero within = apart.0
      each_apart (p ∷ order) apart (suc i) within = each_apart order apart.1 i (omega (arith, within))

  -- another row lies at the place
  pub written : (of now : ℕ → Option (K × X)) (s : ℕ) (new : K × X) → now s ≡ Some new → ((o : ℕ) → o ≢ s → now o ≡ of o) → (order : List ℕ) (rows : List (K × X)) → map of order ≡ map Some rows → T (is_sorted cmp rows) → (i : ℕ) → i < length order → get_or order i 0 ≡ s → map now order ≡ map Some (set rows i new)
  written of now s new some others [] rows h sorted i within at = absurd (omega (arith, within))
  written of now s new some others (o ∷ order) [] h sorted i within at = cc
  written of now s new some others (o ∷ order) (row ∷ rows) h sorted zero within at =
      let here : of s ≡ Some row = sym (ap of at) ∙ (cc) in
      let rest : map of order ≡ map Some rows = cc in
      let apart = above_apart of s row here order rows rest (all-below cmp row.0 rows (first _ _ sorted)) in
      λ j. (ap now at ∙ some) j ∷ (stays of now s others order apart ∙ rest) j
  written of now s new some others (o ∷ order) (row ∷ rows) h sorted (suc i) within at =
      let here : of o ≡ Some row = cc in
      let rest : map of order ≡ map Some rows = cc in
      let apart = before_apart of o row order rows here rest sorted i s (omega (arith, within)) at in
      λ j. (others o apart ∙ here) j ∷ written of now s new some others order rows rest (second _ _ sorted) i (omega (arith, within)) at j

  -- the place is no more among them
  pub removed : (of now : ℕ → Option (K × X)) (s : ℕ) → ((o : ℕ) → o ≢ s → now o ≡ of o) → (order : List ℕ) (rows : List (K × X)) → map of order ≡ map Some rows → T (is_sorted cmp rows) → (i : ℕ) → i < length order → get_or order i 0 ≡ s → map now (remove order i) ≡ map Some (remove rows i)
  removed of now s others [] rows h sorted i within at = absurd (omega (arith, within))
  removed of now s others (o ∷ order) [] h sorted i within at = cc
  removed of now s others (o ∷ order) (row ∷ rows) h sorted zero within at =
      let here : of s ≡ Some row = sym (ap of at) ∙ (cc) in
      let rest : map of order ≡ map Some rows = cc in
      stays of now s others order (above_apart of s row here order rows rest (all-below cmp row.0 rows (first _ _ sorted))) ∙ rest
  removed of now s others (o ∷ order) (row ∷ rows) h sorted (suc i) within at =
      let here : of o ≡ Some row = cc in
      let rest : map of order ≡ map Some rows = cc in
      let apart = before_apart of o row order rows here rest sorted i s (omega (arith, within)) at in
      λ j. (others o apart ∙ here) j ∷ removed of now s others order rows rest (second _ _ sorted) i (omega (arith, within)) at j

-- Rows that are put in their places one after the other.
use Rattle.std.proofs.Common.{◌≡◌, ◌+◌, ◌≤◌, true, false, cond, List, [], ◌∷◌, ◌++◌, length, fold, Some, is_some, inl, inr, refl, sym, ap, subst, ◌∙◌, arith, T}
use Rattle.std.proofs.lemmas.List.Sums.{fold-append}
use Rattle.std.proofs.lemmas.Map.Lookups.{CmpEqualImpliesEq}
use Rattle.std.specs.Cmp.{IsTotalOrder, tied_itself}
use Rattle.std.specs.FinMap.Entries.{put, find, is_sorted, is_sorted-put, find-put}
use Rattle.std.specs.List.{AllByRecursion}
use Rattle.std.specs.Ordering.{is_eq, eq_by_cmp}
use Rattle.std.specs.declared.cmp.Ordering.{Ordering}
use Rattle.sorted_rows.specs.RowsLaws.{all-put_row, length-put-le}
use Rattle.lsr_config.specs.Documents.{in_order}
use Rattle.lsr_config.specs.Rules.{SomeOf}

pub in_order-nil : {K V : Type 0} (cmp : K → K → Ordering) → in_order {K = K} {V = V} cmp [] ≡ []
unfolding in_order
in_order-nil cmp = refl

pub in_order-more : {K V : Type 0} (cmp : K → K → Ordering) (rows : List (K × V)) (row : K × V) (table : List (K × V)) → table ≡ in_order cmp rows
    → put cmp row.0 row.1 table ≡ in_order cmp (rows ++ row ∷ [])
unfolding in_order
in_order-more {K} {V} cmp rows row table so_far =
    ap (put cmp row.0 row.1) so_far ∙ sym (fold-append (λ (placed : List (K × V)) (r : K × V). put cmp r.0 r.1 placed) [] rows (row ∷ []))

-- ---- rows in order

-- the rows, put into the table one after the other
unfoldable pub placed : {K V : Type 0} → (K → K → Ordering) → List (K × V) → List (K × V) → List (K × V)
placed cmp table rows = fold (λ t row. put cmp row.0 row.1 t) table rows

module _ {K V : Type 0} (cmp : K → K → Ordering) (total : IsTotalOrder cmp) (exact : CmpEqualImpliesEq cmp) where
  sorted_placed : (table rows : List (K × V)) → T (is_sorted cmp table) → T (is_sorted cmp (placed cmp table rows))
  unfolding placed
  sorted_placed table [] h = h
  sorted_placed table (row ∷ rows) h = sorted_placed (put cmp row.0 row.1 table) rows (is_sorted-put cmp total row.0 row.1 table h)

  length_placed : (table rows : List (K × V)) → length (placed cmp table rows) ≤ length table + length rows
  unfolding placed
  length_placed table [] = omega arith
  length_placed table (row ∷ rows) =
      let rest : length (placed cmp (put cmp row.0 row.1 table) rows) ≤ length (put cmp row.0 row.1 table) + length rows = length_placed (put cmp row.0 row.1 table) rows in
      let one : length (put cmp row.0 row.1 table) ≤ length table + 1 = length-put-le cmp row.0 row.1 table in
      omega arith

  all_placed : (P : K × V → Type 0) (table rows : List (K × V)) → AllByRecursion P table → AllByRecursion P rows → AllByRecursion P (placed cmp table rows)
  unfolding placed
  all_placed P table [] h now = h
  all_placed P table (row ∷ rows) h now =
      all_placed P (put cmp row.0 row.1 table) rows
      (all-put_row cmp P row.0 row.1 (λ x tie. subst (λ k. P (k, row.1)) (exact row.0 x tie) now.0) now.0 table h) now.1

  found_stays : (q : K) (table rows : List (K × V)) → is_some (find cmp q table) ≡ true → is_some (find cmp q (placed cmp table rows)) ≡ true
  unfolding placed
  found_stays q table [] h = h
  found_stays q table (row ∷ rows) h =
      found_stays q (put cmp row.0 row.1 table) rows
      (ap is_some (find-put cmp total q row.0 row.1 table) ∙ elim (eq_by_cmp cmp q row.0) as (λ b. is_some (cond b (Some row.1) (find cmp q table)) ≡ true) [ true ↦ refl | false ↦ h ])

  found_placed : (q : K) (table rows : List (K × V)) → SomeOf (λ row. row.0 ≡ q) rows → is_some (find cmp q (placed cmp table rows)) ≡ true
  unfolding placed
  found_placed q table [] h = absurd h
  found_placed q table (row ∷ rows) (inl is) =
      found_stays q (put cmp row.0 row.1 table) rows
      (ap is_some (find-put cmp total q row.0 row.1 table) ∙ ap (λ b. is_some (cond b (Some row.1) (find cmp q table))) (ap (λ k. is_eq (cmp q k)) is ∙ ap is_eq (tied_itself total q)))
  found_placed q table (row ∷ rows) (inr h) = found_placed q (put cmp row.0 row.1 table) rows h

  pub sorted_in_order : (rows : List (K × V)) → T (is_sorted cmp (in_order cmp rows))
  unfolding in_order placed
  sorted_in_order rows = sorted_placed [] rows tt

  pub length_in_order : (rows : List (K × V)) → length (in_order cmp rows) ≤ length rows
  unfolding in_order placed
  length_in_order rows = let h = length_placed [] rows in omega (arith, h)

  pub all_in_order : (P : K × V → Type 0) (rows : List (K × V)) → AllByRecursion P rows → AllByRecursion P (in_order cmp rows)
  unfolding in_order placed
  all_in_order P rows h = all_placed P [] rows tt h

  pub found_in_order : (q : K) (rows : List (K × V)) → SomeOf (λ row. row.0 ≡ q) rows → is_some (find cmp q (in_order cmp rows)) ≡ true
  unfolding in_order placed
  found_in_order q rows h = found_placed q [] rows h

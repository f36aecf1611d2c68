-- Rows that are taken from the end of others in order, each put before those that were taken.
use Rattle.std.specs.Prelude.{◌≡◌, ◌++◌, ◌≤◌, T, List, [], ◌∷◌, length}
use Rattle.std.specs.FinMap.Entries.{by_order, is_sorted, put}
use Rattle.std.specs.declared.cmp.Ordering.{Ordering}
use Rattle.std.proofs.Common.{refl, sym, ap, subst, ◌∙◌, append_assoc, arith, length-append}
use Rattle.sorted_rows.specs.RowsLaws.{all-below, first, second}

module _ {K X : Type 0} (cmp : K → K → Ordering) where
  -- rows behind others are in order where all are
  behind : (rows more : List (K × X)) → T (is_sorted cmp (rows ++ more)) → T (is_sorted cmp more)
  behind [] more h = h
  behind (row ∷ rows) more h = behind rows more (second _ _ h)

  -- a row below all is put in front
  in_front : (row : K × X) (rows : List (K × X)) → T (is_sorted cmp (row ∷ rows)) → put cmp row.0 row.1 rows ≡ row ∷ rows
  in_front row [] h = refl
  in_front row (next ∷ rows) h =
      ap (λ o. by_order o (row ∷ next ∷ rows) ((next.0, row.1) ∷ rows) (next ∷ put cmp row.0 row.1 rows)) (all-below cmp row.0 (next ∷ rows) (first _ _ h)).0

  module _ (all rows left taken : List (K × X)) (row : K × X) (sorted : T (is_sorted cmp all)) (before : rows ++ taken ≡ all) (popped : rows ≡ left ++ row ∷ []) where
    next_before : left ++ row ∷ taken ≡ all
    next_before = sym (append_assoc left (row ∷ []) taken) ∙ ap (λ rs. rs ++ taken) (sym popped) ∙ before

    -- the last of them comes in front of those that were taken
    pub put_next : put cmp row.0 row.1 taken ≡ row ∷ taken
    put_next = in_front row taken (behind left (row ∷ taken) (subst (λ rs. T (is_sorted cmp rs)) (sym next_before) sorted))

    -- So they are all still.
    pub taken_next : (now : List (K × X)) → now ≡ put cmp row.0 row.1 taken → left ++ now ≡ all
    taken_next now is = ap (λ rs. left ++ rs) (is ∙ put_next) ∙ next_before

    -- There is room for it, where there is for all.
    pub room_next : length (put cmp row.0 row.1 taken) ≤ length all
    room_next = omega (arith, ap length put_next, ap length next_before, length-append left (row ∷ taken))

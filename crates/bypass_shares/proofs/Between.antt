-- A key between two rows in order isn't found.
use Rattle.std.proofs.Common.{◌≡◌, ℕ, zero, suc, ◌+◌, ◌<◌, ◌≤◌, T, List, [], ◌∷◌, length, get_or, None, Some, cond, refl, ap, sym, ◌∙◌, arith}
use Rattle.std.specs.Cmp.{IsTotalOrder}
use Rattle.std.specs.FinMap.Entries.{find, is_sorted}
use Rattle.std.specs.List.{AllByRecursion}
use Rattle.std.specs.declared.cmp.Ordering.{Ordering}
use Rattle.std.specs.Ordering.{is_eq, ordering_reverse}
use Rattle.std.specs.declared.cmp.Ordering.TheVariants.{Less, Equal}
use Rattle.std.proofs.lemmas.Cmp.{tied_back}
use Rattle.std.proofs.lemmas.List.{get_or_default}
use Rattle.sorted_rows.specs.RowsLaws.{all-below, find-above, find-before, first, second}

-- what holds of each element holds of the one at a place
each_at : {A : Type 0} (P : A → Type 0) (xs : List A) (i : ℕ) (d : A) → AllByRecursion P xs → i < length xs → P (get_or xs i d)
each_at P [] i d h within = absurd (omega (arith, within))
each_at P (x ∷ xs) zero d h within = h.0
each_at P (x ∷ xs) (suc i) d h within = each_at P xs i d h.1 (omega (arith, within))

module _ {K X : Type 0} (cmp : K → K → Ordering) (total : IsTotalOrder cmp) where
  -- a key above a row is above the first
  above_first : (q : K) (e : K × X) (es : List (K × X)) (i : ℕ) (d : K × X) → T (is_sorted cmp (e ∷ es)) → i < suc (length es) → cmp (get_or (e ∷ es) i d).0 q ≡ Less → cmp e.0 q ≡ Less
  above_first q e es zero d h within above = above
  above_first q e es (suc i) d h within above =
      total.trans e.0 (get_or es i d).0 q (each_at (λ (row : K × X). cmp e.0 row.0 ≡ Less) es i d (all-below cmp e.0 es (first _ _ h)) (omega (arith, within))) above

  pub find_between : (q : K) (es : List (K × X)) (i : ℕ) → T (is_sorted cmp es) → i ≤ length es → ((j : ℕ) (d : K × X) → j + 1 ≡ i → cmp (get_or es j d).0 q ≡ Less) → ((d : K × X) → i < length es → cmp q (get_or es i d).0 ≡ Less) → find cmp q es ≡ None
  find_between q [] i h within above below = refl
  find_between q (e ∷ es) zero h within above below = find-before cmp total q e es h (below e (omega arith))
  find_between q (e ∷ es) (suc i) h within above below =
      let low : cmp e.0 q ≡ Less = above_first q e es i e h (omega (arith, within)) (above i e (omega arith)) in
      find-above cmp total q e es low
      ∙ find_between q es i (second _ _ h) (omega (arith, within)) (λ j d is. above (suc j) d (omega (arith, is))) (λ d inside. below d (omega (arith, inside)))

  -- a key that ties with a later row is above the first
  behind : (q : K) (e : K × X) (es : List (K × X)) (i : ℕ) (d : K × X) → T (is_sorted cmp (e ∷ es)) → i < length es → cmp (get_or es i d).0 q ≡ Equal → cmp e.0 q ≡ Less
  behind q e es i d h within tie =
      total.antisymm e.0 q ∙ ap ordering_reverse (sym (total.congr (get_or es i d).0 q e.0 tie) ∙ total.antisymm (get_or es i d).0 e.0 ∙ ap ordering_reverse (each_at (λ (row : K × X). cmp e.0 row.0 ≡ Less) es i d (all-below cmp e.0 es (first _ _ h)) within))

  -- the row at a place that ties is the one that is found
  pub find_at : (q : K) (es : List (K × X)) (i : ℕ) (d : K × X) → T (is_sorted cmp es) → i < length es → cmp (get_or es i d).0 q ≡ Equal → find cmp q es ≡ Some (get_or es i d).1
  find_at q [] i d h within tie = absurd (omega (arith, within))
  find_at q (e ∷ es) zero d h within tie = ap (λ r. cond (is_eq r) (Some e.1) (find cmp q es)) (tied_back total e.0 q tie)
  find_at q (e ∷ es) (suc i) d h within tie =
      let inside : i < length es = omega (arith, within) in
      find-above cmp total q e es (behind q e es i d h inside tie) ∙ find_at q es i d (second _ _ h) inside tie

  -- the same, where the row is read twice
  pub find_at-again : (q : K) (es : List (K × X)) (i : ℕ) (d e : K × X) → T (is_sorted cmp es) → i < length es → cmp (get_or es i e).0 q ≡ Equal → find cmp q es ≡ Some (get_or es i d).1
  find_at-again q es i d e h within tie = find_at q es i d h within (ap (λ (row : K × X). cmp row.0 q) (get_or_default es i d e within) ∙ tie)

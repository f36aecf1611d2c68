-- What is read of a slot more.
use Rattle.std.proofs.Common.{◌≡◌, ℕ, suc, ◌+◌, ◌<◌, ◌≤◌, T, Bool, true, false, ◌&&◌, List, [], ◌∷◌, ◌++◌, length, get_or, Option, Some, None, take, drop, ap, sym, subst, ◌∙◌, arith}
use Rattle.std.specs.FinMap.Entries.{below_all, is_sorted}
use Rattle.std.specs.declared.cmp.Ordering.{Ordering}
use Rattle.std.specs.List.{cons_option, filter, filter_map}
use Rattle.std.proofs.lemmas.List.{map-append, take-append-drop, take_more}
use Rattle.std.proofs.lemmas.List.Elements.{filter-append, filter_map-append}
use Rattle.sorted_rows.specs.Rows.{keys_of}
use Rattle.sorted_rows.specs.RowsLaws.{first, second}

-- the rows of one slot more
pub rows_more : {R : Type 0} (of : ℕ → Option R) (order : List ℕ) (i a : ℕ) → i < length order → filter_map of (take (i + 1) order) ≡ filter_map of (take i order) ++ cons_option (of (get_or order i a)) []
rows_more of order i a within =
    ap (filter_map of) (take_more order i a within) ∙ filter_map-append of (take i order) (get_or order i a ∷ [])

-- and the keys of those that pass a test
pub keys_more : {K X : Type 0} (p : K × X → Bool) (of : ℕ → Option (K × X)) (order : List ℕ) (i a : ℕ) → i < length order → keys_of (filter p (filter_map of (take (i + 1) order))) ≡ keys_of (filter p (filter_map of (take i order))) ++ keys_of (filter p (cons_option (of (get_or order i a)) []))
keys_more p of order i a within =
    let more : List _ = cons_option (of (get_or order i a)) [] in
    ap (λ rows. keys_of (filter p rows)) (rows_more of order i a within)
    ∙ ap keys_of (filter-append p (filter_map of (take i order)) more)
    ∙ map-append (λ row. row.0) (filter p (filter_map of (take i order))) (filter p more)

-- there are not more rows than slots
pub length_rows : {R : Type 0} (of : ℕ → Option R) (order : List ℕ) → length (filter_map of order) ≤ length order
length_rows of [] = omega arith
length_rows {R} of (o ∷ order) =
    let rest = length_rows of order in
    elim (of o) as (λ row. length {A = R} (cons_option row (filter_map of order)) ≤ suc (length order)) [ None ↦ omega (arith, rest) | Some row ↦ omega (arith, rest) ]

-- a test of both, from each
both : (a b : Bool) → T a → T b → T (a && b)
both true b p q = q
both false b p q = p

module _ {K X : Type 0} (cmp : K → K → Ordering) where
  below_all-front : (x : K) (es fs : List (K × X)) → T (below_all cmp x (es ++ fs)) → T (below_all cmp x es)
  below_all-front x [] fs h = tt
  below_all-front x (e ∷ es) fs h = both _ _ (first _ _ h) (below_all-front x es fs (second _ _ h))

  is_sorted-front : (es fs : List (K × X)) → T (is_sorted cmp (es ++ fs)) → T (is_sorted cmp es)
  is_sorted-front [] fs h = tt
  is_sorted-front (e ∷ es) fs h = both _ _ (below_all-front e.0 es fs (first _ _ h)) (is_sorted-front es fs (second _ _ h))

  -- the rows of the first slots of rows in order are in order
  pub sorted_front : (of : ℕ → Option (K × X)) (order : List ℕ) (i : ℕ) → T (is_sorted cmp (filter_map of order)) → T (is_sorted cmp (filter_map of (take i order)))
  sorted_front of order i h =
      let parts = sym (filter_map-append of (take i order) (drop i order)) ∙ ap (filter_map of) (take-append-drop i order) in
      is_sorted-front (filter_map of (take i order)) (filter_map of (drop i order)) (subst (λ (rows : List (K × X)). T (is_sorted cmp rows)) (sym parts) h)

-- What is found at a key's place among rows in order, and what an edit at that place does.
use Rattle.std.proofs.Common.{◌≡◌, ℕ, zero, suc, ◌+◌, ◌<◌, ◌≤◌, T, false, true, not, cond, List, [], ◌∷◌, ◌++◌, length, get_or, set, Some, None, Result, Ok, Err, IfOk, IfErr, add-one, refl, sym, ap, subst, inl, inr, ◌∙◌, arith}
use Rattle.std.specs.Cmp.{IsTotalOrder}
use Rattle.std.specs.FinMap.Entries.{by_order, put, find, where_key, is_sorted}
use Rattle.std.specs.List.{AllByRecursion, insert, remove}
use Rattle.std.specs.List.Sorted.{IsBinarySearchResult, IsPartitionPoint, IsSearchInRange, IsSortedBy}
use Rattle.std.specs.Ordering.{is_eq, is_lt, ordering_reverse}
use Rattle.std.specs.declared.cmp.Ordering.{Ordering}
use Rattle.std.specs.declared.cmp.Ordering.TheVariants.{Less, Equal, Greater}
use Rattle.std.proofs.lemmas.Bool.{cases_lt}
use Rattle.std.proofs.lemmas.Cmp.{tied_back}
use Rattle.std.proofs.lemmas.List.Sorted.{searchable_from_sorted}
use native.Mathlib.Numerals.{unary_clauses}
use Rattle.sorted_rows.specs.RowsLaws.{all-below, find-behind, first, second, where_key-absent}

-- what holds of each element holds of the one at a place
each_at : {A : Type 0} (P : A → Type 0) (xs : List A) (i : ℕ) (d : A) → AllByRecursion P xs → i < length xs → P (get_or xs i d)
each_at P [] i d h within = absurd (omega (arith, within))
each_at P (x ∷ xs) zero d h within = h.0
each_at P (x ∷ xs) (suc i) d h within = each_at P xs i d h.1 (omega (arith, within))

-- a comparison the other way round
turned : {K : Type 0} (cmp : K → K → Ordering) → IsTotalOrder cmp → (x y : K) (o : Ordering) → cmp x y ≡ o → cmp y x ≡ ordering_reverse o
turned cmp total x y o is = total.antisymm y x ∙ ap ordering_reverse is

-- a comparison that says so is of a lesser one
pub lesser : (o : Ordering) → is_lt o ≡ true → o ≡ Less
lesser Less is = refl
lesser Equal is = absurd (let e = is in cc)
lesser Greater is = absurd (let e = is in cc)

module _ {K X : Type 0} (cmp : K → K → Ordering) (total : IsTotalOrder cmp) where
  -- rows in order are sorted as a binary search asks
  pub sorted_by : (es : List (K × X)) → T (is_sorted cmp es) → IsSortedBy (λ (a b : K × X). is_lt (cmp a.0 b.0)) es
  sorted_by [] h k d from within = absurd (omega (arith, within))
  sorted_by (e ∷ es) h zero d from within =
      ap is_lt (turned cmp total e.0 (get_or es 0 d).0 Less (each_at (λ (row : K × X). cmp e.0 row.0 ≡ Less) es 0 d (all-below cmp e.0 es (first _ _ h)) (omega (arith, within))))
  sorted_by (e ∷ es) h (suc k) d from within =
      simp unary_clauses (subst (λ n. is_lt (cmp (get_or es n d).0 (get_or es k d).0) ≡ false) (add-one k) (sorted_by es (second _ _ h) k d (omega arith) (omega (arith, within))))

  -- a key that ties with a later row is above the first
  behind : (q : K) (e : K × X) (es : List (K × X)) (i : ℕ) (d : K × X) → T (is_sorted cmp (e ∷ es)) → i < length es → cmp (get_or es i d).0 q ≡ Equal → cmp q e.0 ≡ Greater
  behind q e es i d h within tie =
      sym (total.congr (get_or es i d).0 q e.0 tie) ∙ turned cmp total e.0 (get_or es i d).0 Less (each_at (λ (row : K × X). cmp e.0 row.0 ≡ Less) es i d (all-below cmp e.0 es (first _ _ h)) within)

  -- the row at a place that ties is the one that is found
  pub find_at : (q : K) (es : List (K × X)) (i : ℕ) (d : K × X) → T (is_sorted cmp es) → i < length es → cmp (get_or es i d).0 q ≡ Equal → find cmp q es ≡ Some (get_or es i d).1
  find_at q [] i d h within tie = absurd (omega (arith, within))
  find_at q (e ∷ es) zero d h within tie = ap (λ r. cond (is_eq r) (Some e.1) (find cmp q es)) (tied_back total e.0 q tie)
  find_at q (e ∷ es) (suc i) d h within tie =
      let inside : i < length es = omega (arith, within) in
      ap (λ r. cond (is_eq r) (Some e.1) (find cmp q es)) (behind q e es i d h inside tie) ∙ find_at q es i d (second _ _ h) inside tie

  -- it takes the value and keeps its key
  pub put_at : (q : K) (v : X) (es : List (K × X)) (i : ℕ) (d : K × X) → T (is_sorted cmp es) → i < length es → cmp (get_or es i d).0 q ≡ Equal → put cmp q v es ≡ set es i ((get_or es i d).0, v)
  put_at q v [] i d h within tie = absurd (omega (arith, within))
  put_at q v (e ∷ es) zero d h within tie = ap (λ r. by_order r ((q, v) ∷ e ∷ es) ((e.0, v) ∷ es) (e ∷ put cmp q v es)) (tied_back total e.0 q tie)
  put_at q v (e ∷ es) (suc i) d h within tie =
      let inside : i < length es = omega (arith, within) in
      ap (λ r. by_order r ((q, v) ∷ e ∷ es) ((e.0, v) ∷ es) (e ∷ put cmp q v es)) (behind q e es i d h inside tie) ∙ ap (λ rest. e ∷ rest) (put_at q v es i d (second _ _ h) inside tie)

  -- and it alone goes when the key is removed
  pub removed_at : (q : K) (es : List (K × X)) (i : ℕ) (d : K × X) → T (is_sorted cmp es) → i < length es → cmp (get_or es i d).0 q ≡ Equal → where_key cmp (λ k. not (is_eq (cmp q k))) es ≡ remove es i
  removed_at q [] i d h within tie = absurd (omega (arith, within))
  removed_at q (e ∷ es) zero d h within tie =
      let here = tied_back total e.0 q tie in
      ap (λ r. cond (not (is_eq r)) (e ∷ where_key cmp (λ k. not (is_eq (cmp q k))) es) (where_key cmp (λ k. not (is_eq (cmp q k))) es)) here
      ∙ where_key-absent cmp q es (find-behind cmp total q e es h here)
  removed_at q (e ∷ es) (suc i) d h within tie =
      let inside : i < length es = omega (arith, within) in
      ap (λ r. cond (not (is_eq r)) (e ∷ where_key cmp (λ k. not (is_eq (cmp q k))) es) (where_key cmp (λ k. not (is_eq (cmp q k))) es)) (behind q e es i d h inside tie)
      ∙ ap (λ rest. e ∷ rest) (removed_at q es i d (second _ _ h) inside tie)

  -- a key that ties with no row isn't found
  find_none : (q : K) (es : List (K × X)) → ((k : ℕ) (d : K × X) → k < length es → is_eq (cmp q (get_or es k d).0) ≡ false) → find cmp q es ≡ None
  find_none q [] apart = refl
  find_none q (e ∷ es) apart = ap (λ b. cond b (Some e.1) (find cmp q es)) (apart 0 e (omega arith)) ∙ find_none q es (λ k d within. apart (suc k) d (omega (arith, within)))

  -- smaller keys before a place, and greater keys from it on
  abbrev pub IsGap : K → List (K × X) → ℕ → Type 0
  IsGap q es i = IsPartitionPoint (λ (row : K × X). cmp row.0 q ≡ Less) (λ (row : K × X). cmp row.0 q ≡ Greater) es i

  -- a key that has a gap isn't found
  pub find_in_gap : (q : K) (es : List (K × X)) (i : ℕ) → IsGap q es i → find cmp q es ≡ None
  find_in_gap q es i gap = find_none q es (λ k d within. elim (cases_lt k i) [
    | inl below ↦ ap is_eq (turned cmp total (get_or es k d).0 q Less (gap.0 k d (omega arith) below))
    | inr above ↦ ap is_eq (turned cmp total (get_or es k d).0 q Greater (gap.1 k d above within))
  ])

  -- a new row goes into the gap
  pub put_in_gap : (q : K) (v : X) (es : List (K × X)) (i : ℕ) → i ≤ length es → IsGap q es i → put cmp q v es ≡ insert es i (q, v)
  put_in_gap q v [] zero within gap = refl
  put_in_gap q v [] (suc i) within gap = absurd (omega (arith, within))
  put_in_gap q v (e ∷ es) zero within gap =
      ap (λ r. by_order r ((q, v) ∷ e ∷ es) ((e.0, v) ∷ es) (e ∷ put cmp q v es)) (turned cmp total e.0 q Greater (gap.1 0 e (omega arith) (omega arith)))
  put_in_gap q v (e ∷ es) (suc i) within gap =
      ap (λ r. by_order r ((q, v) ∷ e ∷ es) ((e.0, v) ∷ es) (e ∷ put cmp q v es)) (turned cmp total e.0 q Less (gap.0 0 e (omega arith) (omega arith)))
      ∙ ap (λ rest. e ∷ rest) (put_in_gap q v es i (omega (arith, within)) (λ k d from below. gap.0 (suc k) d (omega arith) (omega (arith, below)), λ k d from below. gap.1 (suc k) d (omega (arith, from)) (omega (arith, below))))

  -- a row of a key above the last goes behind all
  pub put_last : (q : K) (es : List (K × X)) (i : ℕ) (d : K × X) → T (is_sorted cmp es) → i + 1 ≡ length es → cmp (get_or es i d).0 q ≡ Less → (v : X) → put cmp q v es ≡ es ++ (q, v) ∷ []
  put_last q [] i d h last above v = refl
  put_last q (e ∷ []) zero d h last above v =
      ap (λ r. by_order r ((q, v) ∷ e ∷ []) ((e.0, v) ∷ []) (e ∷ (q, v) ∷ [])) (turned cmp total e.0 q Less above)
  put_last q (e ∷ []) (suc i) d h last above v = absurd (omega (arith, last))
  put_last q (e ∷ f ∷ es) zero d h last above v = absurd (omega (arith, last))
  put_last q (e ∷ f ∷ es) (suc i) d h last above v =
      let inside : i < length (f ∷ es) = omega (arith, last) in
      let here : cmp e.0 q ≡ Less = total.trans e.0 (get_or (f ∷ es) i d).0 q (each_at (λ (row : K × X). cmp e.0 row.0 ≡ Less) (f ∷ es) i d (all-below cmp e.0 (f ∷ es) (first _ _ h)) inside) above in
      ap (λ r. by_order r ((q, v) ∷ e ∷ f ∷ es) ((e.0, v) ∷ f ∷ es) (e ∷ put cmp q v (f ∷ es))) (turned cmp total e.0 q Less here)
      ∙ ap (λ rest. e ∷ rest) (put_last q (f ∷ es) i d (second _ _ h) (omega (arith, last)) above v)

  removed_within : (q : K) (es : List (K × X)) (i : ℕ) → T (is_sorted cmp es) → i < length es → ((d : K × X) → cmp (get_or es i d).0 q ≡ Equal) → where_key cmp (λ k. not (is_eq (cmp q k))) es ≡ remove es i
  removed_within q [] i h within tie = absurd (omega (arith, within))
  removed_within q (e ∷ es) i h within tie = removed_at q (e ∷ es) i e h within (tie e)

  -- what a binary search found
  pub found : (q : K) (es : List (K × X)) (r : Result ℕ ℕ) → T (is_sorted cmp es) → IsSearchInRange r (length es) → IsBinarySearchResult (λ (row : K × X). cmp row.0 q) es r → IfOk r (λ i. (i < length es) × ((d : K × X) → find cmp q es ≡ Some (get_or es i d).1) × ((v : X) (d : K × X) → put cmp q v es ≡ set es i ((get_or es i d).0, v)) × (where_key cmp (λ k. not (is_eq (cmp q k))) es ≡ remove es i))
  found q es (Ok i) h within tie = (within, λ d. find_at q es i d h within (tie d), λ v d. put_at q v es i d h within (tie d), removed_within q es i h within tie)
  found q es (Err i) h within gap = tt

  -- and where it found nothing
  pub absent : (q : K) (es : List (K × X)) (r : Result ℕ ℕ) → T (is_sorted cmp es) → IsSearchInRange r (length es) → IsBinarySearchResult (λ (row : K × X). cmp row.0 q) es r → IfErr r (λ i. (i ≤ length es) × (find cmp q es ≡ None) × ((v : X) → put cmp q v es ≡ insert es i (q, v)) × (where_key cmp (λ k. not (is_eq (cmp q k))) es ≡ es))
  absent q es (Ok i) h within tie = tt
  absent q es (Err i) h within parted =
      let gap = parted (searchable_from_sorted total (λ (row : K × X). row.0) es q (sorted_by es h)) in
      let none = find_in_gap q es i gap in
      (within, none, λ v. put_in_gap q v es i within gap, where_key-absent cmp q es none)

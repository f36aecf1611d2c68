-- One row after the other of two lists in order: the lesser comes first.
use Rattle.std.proofs.Common.{◌≡◌, ℕ, zero, suc, ◌+◌, ◌-◌, ◌<◌, ◌≤◌, ◌==◌, Bool, true, false, ◌&&◌, T, length, drop, take, get_or, append_assoc, ◌++◌, List, [], ◌∷◌, Some, cond, refl, ap, sym, subst, ◌∙◌, arith}
use Rattle.std.specs.Cmp.{IsTotalOrder}
use Rattle.std.specs.FinMap.Entries.{below_all, by_order, find, find-put, is_sorted, is_sorted-put, put}
use Rattle.std.specs.List.{AllByRecursion}
use Rattle.std.specs.Option.{option_or}
use Rattle.std.specs.Ordering.{eq_by_cmp, is_lt, ordering_reverse}
use Rattle.std.specs.declared.cmp.Ordering.{Ordering}
use Rattle.std.specs.declared.cmp.Ordering.TheVariants.{Less, Equal, Greater}
use Rattle.std.proofs.lemmas.List.{append-nil, drop_all, drop_more, length-drop, take_all}
use Rattle.std.proofs.lemmas.Bool.{eqb-true}
use Rattle.sorted_rows.specs.RowsLaws.{all-below, first, put-below, second}
use Rattle.bypass_shares.specs.Merged.{with_rows}

-- both tests pass
both : (a b : Bool) → T a → T b → T (a && b)
both true b p q = q
both false b p q = p

-- what `is_lt` says
less : (o : Ordering) → T (is_lt o) → o ≡ Less
less Less p = refl
less Equal p = absurd p
less Greater p = absurd p

-- a row behind those so far, and the rest
pushed : {A : Type 0} (out all : List A) (x : A) (rest : List A) → out ≡ all ++ x ∷ [] → out ++ rest ≡ all ++ x ∷ rest
pushed out all x rest is = ap (λ xs. xs ++ rest) is ∙ append_assoc all (x ∷ []) rest

module _ {K X : Type 0} (cmp : K → K → Ordering) where
  -- rows of which more is put stay below what they were below
  below-put : (x : K) (k : K) (v : X) (es : List (K × X)) → cmp x k ≡ Less → T (below_all cmp x es) → T (below_all cmp x (put cmp k v es))
  below-put x k v [] low h = both _ _ (subst (λ o. T (is_lt o)) (sym low) tt) tt
  below-put x k v (e ∷ es) low h =
      elim (cmp k e.0) as (λ r. T (below_all cmp x (by_order r ((k, v) ∷ e ∷ es) ((e.0, v) ∷ es) (e ∷ put cmp k v es)))) [
        | Less ↦ both _ _ (subst (λ o. T (is_lt o)) (sym low) tt) h
        | Equal ↦ h
        | Greater ↦ both _ _ (first _ _ h) (below-put x k v es low (second _ _ h))
      ]

  below-with_rows : (x : K) (more rows : List (K × X)) → AllByRecursion (λ row. cmp x row.0 ≡ Less) more → T (below_all cmp x rows) → T (below_all cmp x (with_rows cmp more rows))
  below-with_rows x [] rows low h = h
  below-with_rows x (row ∷ more) rows low h = below-put x row.0 row.1 (with_rows cmp more rows) low.0 (below-with_rows x more rows low.1 h)

  -- what is put is in order
  pub is_sorted-with_rows : IsTotalOrder cmp → (more rows : List (K × X)) → T (is_sorted cmp rows) → T (is_sorted cmp (with_rows cmp more rows))
  is_sorted-with_rows total [] rows h = h
  is_sorted-with_rows total (row ∷ more) rows h = is_sorted-put cmp total row.0 row.1 (with_rows cmp more rows) (is_sorted-with_rows total more rows h)

  -- a look-up is one in those that were put, and then one in the others
  pub find-with_rows : IsTotalOrder cmp → (q : K) (more rows : List (K × X)) → find cmp q (with_rows cmp more rows) ≡ option_or (find cmp q more) (find cmp q rows)
  find-with_rows total q [] rows = refl
  find-with_rows total q (row ∷ more) rows =
      find-put cmp total q row.0 row.1 (with_rows cmp more rows)
      ∙ elim (eq_by_cmp cmp q row.0) as (λ b. cond b (Some row.1) (find cmp q (with_rows cmp more rows)) ≡ option_or (cond b (Some row.1) (find cmp q more)) (find cmp q rows)) [
        | true ↦ refl
        | false ↦ find-with_rows total q more rows
      ]

  -- rows above the first are put behind it
  pub behind_first : IsTotalOrder cmp → (row : K × X) (more rows : List (K × X)) → AllByRecursion (λ m. cmp row.0 m.0 ≡ Less) more → with_rows cmp more (row ∷ rows) ≡ row ∷ with_rows cmp more rows
  behind_first total row [] rows low = refl
  behind_first total row (m ∷ more) rows low =
      ap (put cmp m.0 m.1) (behind_first total row more rows low.1)
      ∙ ap (λ r. by_order r (m ∷ row ∷ with_rows cmp more rows) ((row.0, m.1) ∷ with_rows cmp more rows) (row ∷ put cmp m.0 m.1 (with_rows cmp more rows))) (total.antisymm m.0 row.0 ∙ ap ordering_reverse low.0)

  -- a row below all is put before them
  pub before_all : (m : K × X) (more rows : List (K × X)) → T (below_all cmp m.0 more) → T (below_all cmp m.0 rows) → with_rows cmp (m ∷ more) rows ≡ m ∷ with_rows cmp more rows
  before_all m more rows low h = put-below cmp m.0 m.1 (with_rows cmp more rows) (below-with_rows m.0 more rows (all-below cmp m.0 more low) h)

  -- rows in order among none are themselves
  pub with_rows-none : (more : List (K × X)) → T (is_sorted cmp more) → with_rows cmp more [] ≡ more
  with_rows-none [] h = refl
  with_rows-none (m ∷ more) h = before_all m more [] (first _ _ h) tt ∙ ap (λ rest. m ∷ rest) (with_rows-none more (second _ _ h))

  -- the next row is the first of one list, where it is below the first of the other
  module _ (total : IsTotalOrder cmp) where
    below-less : (x y : K) (es : List (K × X)) → cmp x y ≡ Less → T (below_all cmp y es) → T (below_all cmp x es)
    below-less x y [] p h = tt
    below-less x y (e ∷ es) p h =
        both _ _ (subst (λ o. T (is_lt o)) (sym (total.trans x y e.0 p (less _ (first _ _ h)))) tt) (below-less x y es p (second _ _ h))

    pub next-row : (row m : K × X) (rows more : List (K × X)) → T (is_sorted cmp (m ∷ more)) → cmp row.0 m.0 ≡ Less → with_rows cmp (m ∷ more) (row ∷ rows) ≡ row ∷ with_rows cmp (m ∷ more) rows
    next-row row m rows more h low =
        behind_first total row (m ∷ more) rows (low, all-below cmp row.0 more (below-less row.0 m.0 more low (first _ _ h)))

    pub next-more : (row m : K × X) (rows more : List (K × X)) → T (is_sorted cmp (m ∷ more)) → T (is_sorted cmp (row ∷ rows)) → cmp row.0 m.0 ≡ Greater → with_rows cmp (m ∷ more) (row ∷ rows) ≡ m ∷ with_rows cmp more (row ∷ rows)
    next-more row m rows more h g above =
        let low : cmp m.0 row.0 ≡ Less = total.antisymm m.0 row.0 ∙ ap ordering_reverse above in
        before_all m more (row ∷ rows) (first _ _ h) (both _ _ (subst (λ o. T (is_lt o)) (sym low) tt) (below-less m.0 row.0 rows low (first _ _ g)))

    pub next-both : (row m : K × X) (rows more : List (K × X)) → ((x y : K) → cmp x y ≡ Equal → x ≡ y) → T (is_sorted cmp (m ∷ more)) → cmp row.0 m.0 ≡ Equal → with_rows cmp (m ∷ more) (row ∷ rows) ≡ m ∷ with_rows cmp more rows
    next-both row m rows more exact h tie =
        let same = exact row.0 m.0 tie in
        ap (put cmp m.0 m.1) (behind_first total row more rows (subst (λ k. AllByRecursion (λ n. cmp k n.0 ≡ Less) more) (sym same) (all-below cmp m.0 more (first _ _ h))))
        ∙ ap (λ r. by_order r (m ∷ row ∷ with_rows cmp more rows) ((row.0, m.1) ∷ with_rows cmp more rows) (row ∷ put cmp m.0 m.1 (with_rows cmp more rows))) (total.antisymm m.0 row.0 ∙ ap ordering_reverse tie)
        ∙ ap (λ k. (k, m.1) ∷ with_rows cmp more rows) same

-- rows in order stay so from a place on
is_sorted-drop : {K X : Type 0} (cmp : K → K → Ordering) (i : ℕ) (es : List (K × X)) → T (is_sorted cmp es) → T (is_sorted cmp (drop i es))
is_sorted-drop cmp zero es h = h
is_sorted-drop cmp (suc i) [] h = h
is_sorted-drop cmp (suc i) (e ∷ es) h = is_sorted-drop cmp i es (second _ _ h)

module _ {K X : Type 0} (cmp : K → K → Ordering) (total : IsTotalOrder cmp) (exact : (x y : K) → cmp x y ≡ Equal → x ≡ y) where
  -- the rows so far, with the one that comes next
  pub step-row : (out all : List (K × X)) (rows more whole : List (K × X)) (i j : ℕ) (d e : K × X) → T (is_sorted cmp more) → i < length rows → j < length more → cmp (get_or rows i d).0 (get_or more j e).0 ≡ Less → out ≡ all ++ get_or rows i d ∷ [] → all ++ with_rows cmp (drop j more) (drop i rows) ≡ whole → out ++ with_rows cmp (drop j more) (drop (i + 1) rows) ≡ whole
  step-row out all rows more whole i j d e h in_rows in_more low is so_far =
      let row = get_or rows i d in
      let m = get_or more j e in
      let front = drop_more more j e in_more in
      let next : with_rows cmp (drop j more) (drop i rows) ≡ row ∷ with_rows cmp (drop j more) (drop (i + 1) rows) =
      (λ t. with_rows cmp (front t) (drop_more rows i d in_rows t))
      ∙ next-row cmp total row m (drop (i + 1) rows) (drop (j + 1) more) (subst (λ es. T (is_sorted cmp es)) front (is_sorted-drop cmp j more h)) low
      ∙ ap (λ es. row ∷ with_rows cmp es (drop (i + 1) rows)) (sym front) in
      pushed out all row _ is ∙ ap (λ rest. all ++ rest) (sym next) ∙ so_far

  pub step-more : (out all : List (K × X)) (rows more whole : List (K × X)) (i j : ℕ) (d e : K × X) → T (is_sorted cmp rows) → T (is_sorted cmp more) → i < length rows → j < length more → cmp (get_or rows i d).0 (get_or more j e).0 ≡ Greater → out ≡ all ++ get_or more j e ∷ [] → all ++ with_rows cmp (drop j more) (drop i rows) ≡ whole → out ++ with_rows cmp (drop (j + 1) more) (drop i rows) ≡ whole
  step-more out all rows more whole i j d e g h in_rows in_more above is so_far =
      let row = get_or rows i d in
      let m = get_or more j e in
      let front = drop_more more j e in_more in
      let first_row = drop_more rows i d in_rows in
      let next : with_rows cmp (drop j more) (drop i rows) ≡ m ∷ with_rows cmp (drop (j + 1) more) (drop i rows) =
      (λ t. with_rows cmp (front t) (first_row t))
      ∙ next-more cmp total row m (drop (i + 1) rows) (drop (j + 1) more) (subst (λ es. T (is_sorted cmp es)) front (is_sorted-drop cmp j more h)) (subst (λ es. T (is_sorted cmp es)) first_row (is_sorted-drop cmp i rows g)) above
      ∙ ap (λ es. m ∷ with_rows cmp (drop (j + 1) more) es) (sym first_row) in
      pushed out all m _ is ∙ ap (λ rest. all ++ rest) (sym next) ∙ so_far

  pub step-both : (out all : List (K × X)) (rows more whole : List (K × X)) (i j : ℕ) (d e : K × X) → T (is_sorted cmp more) → i < length rows → j < length more → cmp (get_or rows i d).0 (get_or more j e).0 ≡ Equal → out ≡ all ++ get_or more j e ∷ [] → all ++ with_rows cmp (drop j more) (drop i rows) ≡ whole → out ++ with_rows cmp (drop (j + 1) more) (drop (i + 1) rows) ≡ whole
  step-both out all rows more whole i j d e h in_rows in_more tie is so_far =
      let row = get_or rows i d in
      let m = get_or more j e in
      let front = drop_more more j e in_more in
      let next : with_rows cmp (drop j more) (drop i rows) ≡ m ∷ with_rows cmp (drop (j + 1) more) (drop (i + 1) rows) =
      (λ t. with_rows cmp (front t) (drop_more rows i d in_rows t))
      ∙ next-both cmp total row m (drop (i + 1) rows) (drop (j + 1) more) exact (subst (λ es. T (is_sorted cmp es)) front (is_sorted-drop cmp j more h)) tie in
      pushed out all m _ is ∙ ap (λ rest. all ++ rest) (sym next) ∙ so_far

  -- where one list is at its end, the other's rows come
  pub rows_end : (rows more : List (K × X)) (i j : ℕ) → T (is_sorted cmp more) → length rows ≤ i → with_rows cmp (drop j more) (drop i rows) ≡ drop i rows ++ drop j more
  rows_end rows more i j h past =
      let none = drop_all i rows past in
      ap (with_rows cmp (drop j more)) none ∙ with_rows-none cmp (drop j more) (is_sorted-drop cmp j more h) ∙ ap (λ es. es ++ drop j more) (sym none)

  pub more_end : (rows more : List (K × X)) (i j : ℕ) → length more ≤ j → with_rows cmp (drop j more) (drop i rows) ≡ drop i rows ++ drop j more
  more_end rows more i j past =
      let none = drop_all j more past in
      ap (λ es. with_rows cmp es (drop i rows)) none ∙ sym (ap (λ es. drop i rows ++ es) none ∙ append-nil (drop i rows))

-- a list of no length is none
pub none_of : {A : Type 0} (xs : List A) → (length xs == 0) ≡ true → xs ≡ []
none_of [] is = refl
none_of (x ∷ xs) is = let none : length (x ∷ xs) ≡ 0 = eqb-true (length (x ∷ xs)) 0 is in absurd (omega (arith, none))

-- all that is left from a place on
pub all_left : {A : Type 0} (xs : List A) (i : ℕ) → take (length xs - i) (drop i xs) ≡ drop i xs
all_left xs i = let long = length-drop i xs in take_all (length xs - i) (drop i xs) (omega (arith, long))

-- Laws of rows in order, in std's words `put`, `find`, `where_key` and `is_sorted`. Beside them stand std's own:
-- `is_sorted-put`, `is_sorted-where_key`, `find-put`, `find-where_key`, `is_some-find`, `length-put`, `length_without` and `same_entries`.
use Rattle.std.specs.Prelude.{◌≡◌, ◌≢◌, ℕ, suc, ◌+◌, ◌≤◌, Bool, true, false, cond, not, ◌&&◌, T, List, [], ◌∷◌, ◌++◌, map, length, is_some, None, Some, IfSome}
use Rattle.std.specs.Option.{option_and_then, option_map, option_map_or, option_or}
use Rattle.std.specs.Bool.{then_some}
use Rattle.std.specs.List.{AllByRecursion, IsDistinct, filter, items_where_true, list_any, sum_by}
use Rattle.std.specs.Cmp.{IsTotalOrder, IsEquivalence}
use Rattle.std.specs.Ordering.{is_lt, is_eq, eq_by_cmp, ordering_reverse}
use Rattle.std.specs.declared.cmp.Ordering.{Ordering}
use Rattle.std.specs.declared.cmp.Ordering.TheVariants.{Less, Equal, Greater}
use Rattle.std.specs.FinMap.Entries.{by_order, put, find, where_key, below_all, is_sorted, find-put, find-where_key, is_some-find}
use Rattle.std.proofs.Common.{refl, sym, ap, subst, ◌∙◌, arith}
use Rattle.std.proofs.lemmas.List.Sums.{sum_by-cons}
use Rattle.std.proofs.lemmas.Cmp.{tied_itself, alike_right}
use Rattle.std.proofs.lemmas.Map.Keys.{IsDistinct-head, IsDistinct-tail, IsDistinct-cons}
use Rattle.sorted_rows.specs.ListLaws.{all-both, all-weaker, all-map, all-from_map, filter_agree_within}
use Rattle.sorted_rows.specs.Rows.{keys_of, values_of, with_key}

-- a test of both, from each
both : (a b : Bool) → T a → T b → T (a && b)
both true b p q = q
both false b p q = p

-- the first of two tests that pass
pub first : (a b : Bool) → T (a && b) → T a
first true b p = tt
first false b p = p

-- the second of two tests that pass
pub second : (a b : Bool) → T (a && b) → T b
second true b p = p
second false b p = absurd p

-- what `is_lt` says
less : (o : Ordering) → T (is_lt o) → o ≡ Less
less Less p = refl
less Equal p = absurd p
less Greater p = absurd p

-- and the other way round
from_less : (o : Ordering) → o ≡ Less → T (is_lt o)
from_less o p = subst (λ r. T (is_lt r)) (sym p) tt

-- what `is_eq` says
pub ties : (o : Ordering) → is_eq o ≡ true → o ≡ Equal
ties Less p = cc
ties Equal p = refl
ties Greater p = cc

-- an order that is no tie
no_tie : (o : Ordering) → (o ≡ Equal → ⊥) → is_eq o ≡ false
no_tie Less apart = refl
no_tie Equal apart = absurd (apart refl)
no_tie Greater apart = refl

-- the steps of the two laws on sums, where a is the sum over a list and b that over the list from its first row on
first_more : (v e s a b o : ℕ) → a ≡ v + b → b ≡ e + s → o ≡ 0 → a + o ≡ b + v
first_more v e s a b o p q none = omega arith

first_changes : (v e s a b : ℕ) → a ≡ v + s → b ≡ e + s → a + e ≡ b + v
first_changes v e s a b p q = omega arith

first_stays : (v e s t a b o : ℕ) → a ≡ e + s → b ≡ e + t → s + o ≡ t + v → a + o ≡ b + v
first_stays v e s t a b o p q rest = omega arith

first_goes : (e s t b o : ℕ) → b ≡ e + t → o ≡ 0 → s + o ≡ t → s + e ≡ b
first_goes e s t b o q none rest = omega arith

first_left : (e s t a b o : ℕ) → a ≡ e + s → b ≡ e + t → s + o ≡ t → a + o ≡ b
first_left e s t a b o p q rest = omega arith

module _ {K X : Type 0} (cmp : K → K → Ordering) where
  -- a key below every key isn't found
  pub find-below : (q : K) (es : List (K × X)) → T (below_all cmp q es) → find cmp q es ≡ None
  find-below q [] h = refl
  find-below q (e ∷ es) h = ap (λ r. cond (is_eq r) (Some e.1) (find cmp q es)) (less _ (first _ _ h)) ∙ find-below q es (second _ _ h)

  -- a row of a key below every key is put before all
  pub put-below : (k : K) (v : X) (es : List (K × X)) → T (below_all cmp k es) → put cmp k v es ≡ (k, v) ∷ es
  put-below k v [] h = refl
  put-below k v (e ∷ es) h = ap (λ r. by_order r ((k, v) ∷ e ∷ es) ((e.0, v) ∷ es) (e ∷ put cmp k v es)) (less _ (first _ _ h))

  -- `below_all`, at each row
  pub all-below : (x : K) (es : List (K × X)) → T (below_all cmp x es) → AllByRecursion (λ e. cmp x e.0 ≡ Less) es
  all-below x [] h = tt
  all-below x (e ∷ es) h = (less _ (first _ _ h), all-below x es (second _ _ h))

  -- a filter keeps what a key is below
  pub below_all-filter : (x : K) (p : K × X → Bool) (es : List (K × X)) → T (below_all cmp x es) → T (below_all cmp x (filter p es))
  below_all-filter x p [] h = tt
  below_all-filter x p (e ∷ es) h =
      let rest = below_all-filter x p es (second _ _ h) in
      elim (p e) as (λ b. T (below_all cmp x (cond b (e ∷ filter p es) (filter p es)))) [ true ↦ both _ _ (first _ _ h) rest | false ↦ rest ]

  -- rows in order stay so under a filter, also by the values
  pub is_sorted-filter : (p : K × X → Bool) (es : List (K × X)) → T (is_sorted cmp es) → T (is_sorted cmp (filter p es))
  is_sorted-filter p [] h = tt
  is_sorted-filter p (e ∷ es) h =
      let rest = is_sorted-filter p es (second _ _ h) in
      elim (p e) as (λ b. T (is_sorted cmp (cond b (e ∷ filter p es) (filter p es)))) [ true ↦ both _ _ (below_all-filter e.0 p es (first _ _ h)) rest | false ↦ rest ]

  -- a key below each of two lists is below both together
  below_all-append : (x : K) (es fs : List (K × X)) → T (below_all cmp x es) → T (below_all cmp x fs) → T (below_all cmp x (es ++ fs))
  below_all-append x [] fs g h = h
  below_all-append x (e ∷ es) fs g h = both _ _ (first _ _ g) (below_all-append x es fs (second _ _ g) h)

  -- a key below rows is below whichever of them are picked
  below_all-picked : (x : K) (picks : List Bool) (es : List (K × X)) → T (below_all cmp x es) → T (below_all cmp x (items_where_true picks es))
  below_all-picked x [] es h = tt
  below_all-picked x (pick ∷ picks) [] h = tt
  below_all-picked x (true ∷ picks) (e ∷ es) h = both _ _ (first _ _ h) (below_all-picked x picks es (second _ _ h))
  below_all-picked x (false ∷ picks) (e ∷ es) h = below_all-picked x picks es (second _ _ h)

  -- rows in order stay so whichever of them are picked
  pub is_sorted-picked : (picks : List Bool) (es : List (K × X)) → T (is_sorted cmp es) → T (is_sorted cmp (items_where_true picks es))
  is_sorted-picked [] es h = tt
  is_sorted-picked (pick ∷ picks) [] h = tt
  is_sorted-picked (true ∷ picks) (e ∷ es) h = both _ _ (below_all-picked e.0 picks es (first _ _ h)) (is_sorted-picked picks es (second _ _ h))
  is_sorted-picked (false ∷ picks) (e ∷ es) h = is_sorted-picked picks es (second _ _ h)

  -- two lists in order, the first below the second, are in order together
  pub is_sorted-append : (es fs : List (K × X)) → T (is_sorted cmp es) → T (is_sorted cmp fs) → AllByRecursion (λ e. T (below_all cmp e.0 fs)) es → T (is_sorted cmp (es ++ fs))
  is_sorted-append [] fs g h low = h
  is_sorted-append (e ∷ es) fs g h low = both _ _ (below_all-append e.0 es fs (first _ _ g) low.0) (is_sorted-append es fs (second _ _ g) h low.1)

  -- a look-up in two lists is one in the first, and then one in the second
  pub find-append : (q : K) (es fs : List (K × X)) → find cmp q (es ++ fs) ≡ option_or (find cmp q es) (find cmp q fs)
  find-append q [] fs = refl
  find-append q (e ∷ es) fs =
      elim (eq_by_cmp cmp q e.0) as (λ b. cond b (Some e.1) (find cmp q (es ++ fs)) ≡ option_or (cond b (Some e.1) (find cmp q es)) (find cmp q fs)) [ true ↦ refl | false ↦ find-append q es fs ]

  -- what holds of each value holds of the value that is found
  pub find-all : (P : X → Type 0) (q : K) (es : List (K × X)) → AllByRecursion (λ e. P e.1) es → IfSome (find cmp q es) P
  find-all P q [] h = tt
  find-all P q (e ∷ es) h = elim (eq_by_cmp cmp q e.0) as (λ b. IfSome (cond b (Some e.1) (find cmp q es)) P) [ true ↦ h.0 | false ↦ find-all P q es h.1 ]

  -- what holds of each row holds of the row that is found, where keys that tie are equal
  pub find-all_row : ((x y : K) → cmp x y ≡ Equal → x ≡ y) → (P : K × X → Type 0) (q : K) (es : List (K × X)) → AllByRecursion P es → IfSome (find cmp q es) (λ v. P (q, v))
  find-all_row exact P q [] h = tt
  find-all_row exact P q (e ∷ es) h =
      elim (eq_by_cmp cmp q e.0) as (λ b. eq_by_cmp cmp q e.0 ≡ b → IfSome (cond b (Some e.1) (find cmp q es)) (λ v. P (q, v))) [
        | true ↦ λ t. subst (λ (k : K). P (k, e.1)) (sym (exact q e.0 (ties _ t))) h.0
        | false ↦ λ t. find-all_row exact P q es h.1
      ] refl

  -- to remove a key that isn't there changes nothing
  pub where_key-absent : (q : K) (es : List (K × X)) → find cmp q es ≡ None → where_key cmp (λ k. not (is_eq (cmp q k))) es ≡ es
  where_key-absent q [] none = refl
  where_key-absent q (e ∷ es) none =
      elim (eq_by_cmp cmp q e.0) as (λ b. cond b (Some e.1) (find cmp q es) ≡ None → cond (not b) (e ∷ where_key cmp (λ k. not (is_eq (cmp q k))) es) (where_key cmp (λ k. not (is_eq (cmp q k))) es) ≡ e ∷ es) [
        | true ↦ λ is. cc
        | false ↦ λ is. ap (λ rest. e ∷ rest) (where_key-absent q es is)
      ] none

  -- a put keeps a fact of each row, if the fact holds of the new row and of the new value at each key that ties
  pub all-put_row : (P : K × X → Type 0) (k : K) (v : X) → ((x : K) → cmp k x ≡ Equal → P (x, v)) → P (k, v) → (es : List (K × X)) → AllByRecursion P es → AllByRecursion P (put cmp k v es)
  all-put_row P k v tied now [] h = (now, tt)
  all-put_row P k v tied now (e ∷ es) h =
      elim (cmp k e.0) as (λ r. cmp k e.0 ≡ r → AllByRecursion P (by_order r ((k, v) ∷ e ∷ es) ((e.0, v) ∷ es) (e ∷ put cmp k v es))) [
        | Less ↦ λ p. (now, h)
        | Equal ↦ λ p. (tied e.0 p, h.1)
        | Greater ↦ λ p. (h.0, all-put_row P k v tied now es h.1)
      ] refl

  -- a put keeps a fact of each value
  pub all-put : (P : X → Type 0) (k : K) (v : X) → P v → (es : List (K × X)) → AllByRecursion (λ e. P e.1) es → AllByRecursion (λ e. P e.1) (put cmp k v es)
  all-put P k v now es h = all-put_row (λ e. P e.1) k v (λ x p. now) now es h

  -- a put adds one row at most
  pub length-put-le : (k : K) (v : X) (es : List (K × X)) → length (put cmp k v es) ≤ length es + 1
  length-put-le k v [] = omega arith
  length-put-le k v (e ∷ es) =
      let rest : length (put cmp k v es) ≤ length es + 1 = length-put-le k v es in
      elim (cmp k e.0) as (λ r. length (by_order r ((k, v) ∷ e ∷ es) ((e.0, v) ∷ es) (e ∷ put cmp k v es)) ≤ suc (length es) + 1) [ Less ↦ omega arith | Equal ↦ omega arith | Greater ↦ omega arith ]

  -- the keys after a put
  pub keys-put : (k : K) (v : X) (es : List (K × X)) → keys_of (put cmp k v es) ≡ with_key cmp k (keys_of es)
  keys-put k v [] = refl
  keys-put k v (e ∷ es) =
      elim (cmp k e.0) as (λ r. keys_of (by_order r ((k, v) ∷ e ∷ es) ((e.0, v) ∷ es) (e ∷ put cmp k v es)) ≡ by_order r (k ∷ e.0 ∷ keys_of es) (e.0 ∷ keys_of es) (e.0 ∷ with_key cmp k (keys_of es))) [
        | Less ↦ refl
        | Equal ↦ refl
        | Greater ↦ ap (λ ks. e.0 ∷ ks) (keys-put k v es)
      ]

  -- values that are apart stay so after a put of a value apart from each
  pub distinct-put : (eq : X → X → Bool) → IsEquivalence eq → (k : K) (v : X) (es : List (K × X)) → AllByRecursion (λ e. eq v e.1 ≡ false) es → IsDistinct eq (values_of es) → IsDistinct eq (values_of (put cmp k v es))
  distinct-put eq is_equivalence k v [] apart h = IsDistinct-cons eq v [] tt h
  distinct-put eq is_equivalence k v (e ∷ es) apart h =
      let tail = IsDistinct-tail eq e.1 (values_of es) h in
      let head = all-from_map (λ y. eq e.1 y ≡ false) (λ row. row.1) es (IsDistinct-head eq e.1 (values_of es) h) in
      let far = all-put (λ y. eq e.1 y ≡ false) k v (is_equivalence.symm e.1 v ∙ apart.0) es head in
      elim (cmp k e.0) as (λ r. IsDistinct eq (values_of (by_order r ((k, v) ∷ e ∷ es) ((e.0, v) ∷ es) (e ∷ put cmp k v es)))) [
        | Less ↦ IsDistinct-cons eq v (e.1 ∷ values_of es) (all-map (λ y. eq v y ≡ false) (λ row. row.1) (e ∷ es) apart) h
        | Equal ↦ IsDistinct-cons eq v (values_of es) (all-map (λ y. eq v y ≡ false) (λ row. row.1) es apart.1) tail
        | Greater ↦ IsDistinct-cons eq e.1 (values_of (put cmp k v es)) (all-map (λ y. eq e.1 y ≡ false) (λ row. row.1) (put cmp k v es) far) (distinct-put eq is_equivalence k v es apart.1 tail)
      ]

  module _ (total : IsTotalOrder cmp) where
    -- a key below another is below what the other is below
    below-less : (x y : K) (es : List (K × X)) → cmp x y ≡ Less → T (below_all cmp y es) → T (below_all cmp x es)
    below-less x y [] p h = tt
    below-less x y (e ∷ es) p h = both _ _ (from_less _ (total.trans x y e.0 p (less _ (first _ _ h)))) (below-less x y es p (second _ _ h))

    -- and so is a key that ties with the other
    below-tied : (x y : K) (es : List (K × X)) → cmp x y ≡ Equal → T (below_all cmp y es) → T (below_all cmp x es)
    below-tied x y [] p h = tt
    below-tied x y (e ∷ es) p h = both _ _ (subst (λ r. T (is_lt r)) (sym (total.congr x y e.0 p)) (first _ _ h)) (below-tied x y es p (second _ _ h))

    -- a key before the first isn't found
    pub find-before : (q : K) (e : K × X) (es : List (K × X)) → T (is_sorted cmp (e ∷ es)) → cmp q e.0 ≡ Less → find cmp q (e ∷ es) ≡ None
    find-before q e es h p = find-below q (e ∷ es) (both _ _ (from_less _ p) (below-less q e.0 es p (first _ _ h)))

    -- the first key isn't found further back
    pub find-behind : (q : K) (e : K × X) (es : List (K × X)) → T (is_sorted cmp (e ∷ es)) → cmp q e.0 ≡ Equal → find cmp q es ≡ None
    find-behind q e es h p = find-below q es (below-tied q e.0 es p (first _ _ h))

    -- a row that stands first is found first
    pub find-first : (e : K × X) (es : List (K × X)) → find cmp e.0 (e ∷ es) ≡ Some e.1
    find-first e es = ap (λ r. cond (is_eq r) (Some e.1) (find cmp e.0 es)) (tied_itself total e.0)

    -- a key above the first is sought further back
    pub find-above : (q : K) (e : K × X) (es : List (K × X)) → cmp e.0 q ≡ Less → find cmp q (e ∷ es) ≡ find cmp q es
    find-above q e es p = ap (λ r. cond (is_eq r) (Some e.1) (find cmp q es)) (total.antisymm q e.0 ∙ ap ordering_reverse p)

    -- each row is found under its key
    pub all_found : (es : List (K × X)) → T (is_sorted cmp es) → AllByRecursion (λ e. find cmp e.0 es ≡ Some e.1) es
    all_found [] h = tt
    all_found (e ∷ es) h =
        (find-first e es, all-both (λ row. cmp e.0 row.0 ≡ Less) (λ row. find cmp row.0 es ≡ Some row.1) (λ row. find cmp row.0 (e ∷ es) ≡ Some row.1) (λ row p is. find-above row.0 e es p ∙ is) es (all-below e.0 es (first _ _ h)) (all_found es (second _ _ h)))

    -- what holds of each value that is found, under its key, holds of each row
    pub all-from_find : (P : K × X → Type 0) (es : List (K × X)) → T (is_sorted cmp es) → ((q : K) (v : X) → find cmp q es ≡ Some v → P (q, v)) → AllByRecursion P es
    all-from_find P es h found = all-weaker (λ e. find cmp e.0 es ≡ Some e.1) P (λ e is. found e.0 e.1 is) es (all_found es h)

    -- what is found after a filter: p answers at each key that q ties as it answers at q
    pub find-filter : (p : K × X → Bool) (q : K) → ((x : K) (v : X) → cmp q x ≡ Equal → p (x, v) ≡ p (q, v)) → (es : List (K × X)) → T (is_sorted cmp es) → find cmp q (filter p es) ≡ option_and_then (λ v. then_some (p (q, v)) v) (find cmp q es)
    find-filter p q alike [] h = refl
    find-filter p q alike (e ∷ es) h =
        let rest = find-filter p q alike es (second _ _ h) in
        let kept = filter p es in
        let answer = option_and_then (λ v. then_some (p (q, v)) v) in
        elim (eq_by_cmp cmp q e.0) as (λ t. eq_by_cmp cmp q e.0 ≡ t → find cmp q (cond (p e) (e ∷ filter p es) (filter p es)) ≡ option_and_then (λ v. then_some (p (q, v)) v) (cond t (Some e.1) (find cmp q es))) [
          | true ↦ λ t.
              let tie = ties _ t in
              let none = rest ∙ ap (option_and_then (λ v. then_some (p (q, v)) v)) (find-behind q e es h tie) in
              elim (p e) as (λ b. p e ≡ b → find cmp q (cond b (e ∷ filter p es) (filter p es)) ≡ then_some (p (q, e.1)) e.1) [
                | true ↦ λ passes. ap (λ b. cond b (Some e.1) (find cmp q (filter p es))) t ∙ ap (λ b. then_some b e.1) (sym passes ∙ alike e.0 e.1 tie)
                | false ↦ λ fails. none ∙ ap (λ b. then_some b e.1) (sym fails ∙ alike e.0 e.1 tie)
              ] refl
          | false ↦ λ t. elim (p e) as (λ b. find cmp q (cond b (e ∷ filter p es) (filter p es)) ≡ find cmp q (filter p es)) [
            | true ↦ ap (λ b. cond b (Some e.1) (find cmp q (filter p es))) t
            | false ↦ refl
          ] ∙ rest
        ] refl

    -- a row is found after a filter just where it passes the test
    pub all_kept : (p : K × X → Bool) (es : List (K × X)) → T (is_sorted cmp es) → AllByRecursion (λ e. is_some (find cmp e.0 (filter p es)) ≡ p e) es
    all_kept p [] h = tt
    all_kept p (e ∷ es) h =
        let above = all-below e.0 es (first _ _ h) in
        let rest = all_kept p es (second _ _ h) in
        elim (p e) as (λ b. p e ≡ b → AllByRecursion (λ row. is_some (find cmp row.0 (cond b (e ∷ filter p es) (filter p es))) ≡ p row) (e ∷ es)) [
          | true ↦ λ passes.
              (ap is_some (find-first e (filter p es)) ∙ sym passes, all-both (λ row. cmp e.0 row.0 ≡ Less) (λ row. is_some (find cmp row.0 (filter p es)) ≡ p row) (λ row. is_some (find cmp row.0 (e ∷ filter p es)) ≡ p row) (λ row low is. ap is_some {x = find cmp row.0 (e ∷ filter p es)} {y = find cmp row.0 (filter p es)} (find-above row.0 e (filter p es) low) ∙ is) es above rest)
          | false ↦ λ fails. (ap is_some (find-below e.0 (filter p es) (below_all-filter e.0 p es (first _ _ h))) ∙ sym fails, rest)
        ] refl

    -- the rows whose keys a filter leaves are those that pass its test
    pub where_key-kept : (p : K × X → Bool) (es : List (K × X)) → T (is_sorted cmp es) → where_key cmp (λ k. is_some (find cmp k (filter p es))) es ≡ filter p es
    where_key-kept p es h = filter_agree_within (λ e. is_some (find cmp e.0 (filter p es))) p es (all_kept p es h)

    -- a value that was put is found under its key
    pub find-put_same : (k : K) (v : X) (es : List (K × X)) → find cmp k (put cmp k v es) ≡ Some v
    find-put_same k v es = find-put cmp total k k v es ∙ ap (λ r. cond (is_eq r) (Some v) (find cmp k es)) (tied_itself total k)

    -- and every other key as before
    pub find-put_other : (q k : K) (v : X) (es : List (K × X)) → is_eq (cmp q k) ≡ false → find cmp q (put cmp k v es) ≡ find cmp q es
    find-put_other q k v es apart = find-put cmp total q k v es ∙ ap (λ b. cond b (Some v) (find cmp q es)) apart

    -- where keys that tie are equal, every key that differs is found as before
    pub find-put_apart : ((x y : K) → cmp x y ≡ Equal → x ≡ y) → (q k : K) (v : X) (es : List (K × X)) → q ≢ k → find cmp q (put cmp k v es) ≡ find cmp q es
    find-put_apart exact q k v es apart = find-put_other q k v es (no_tie (cmp q k) (λ tie. apart (exact q k tie)))

    -- what is found after a key was removed
    pub find-removed : (q k : K) (es : List (K × X)) → find cmp q (where_key cmp (λ x. not (is_eq (cmp k x))) es) ≡ cond (not (is_eq (cmp k q))) (find cmp q es) None
    find-removed q k es = find-where_key cmp (λ x. not (is_eq (cmp k x))) q (λ x p. ap (λ r. not (is_eq r)) (sym (alike_right total q x k p))) es

    -- a key that was removed isn't found
    pub find-removed_same : (k : K) (es : List (K × X)) → find cmp k (where_key cmp (λ x. not (is_eq (cmp k x))) es) ≡ None
    find-removed_same k es = find-removed k k es ∙ ap (λ r. cond (not (is_eq r)) (find cmp k es) None) (tied_itself total k)

    -- and every other key as before
    pub find-removed_other : (q k : K) (es : List (K × X)) → is_eq (cmp k q) ≡ false → find cmp q (where_key cmp (λ x. not (is_eq (cmp k x))) es) ≡ find cmp q es
    find-removed_other q k es apart = find-removed q k es ∙ ap (λ b. cond (not b) (find cmp q es) None) apart

    -- and where keys that tie are equal every key that differs
    pub find-removed_apart : ((x y : K) → cmp x y ≡ Equal → x ≡ y) → (q k : K) (es : List (K × X)) → q ≢ k → find cmp q (where_key cmp (λ x. not (is_eq (cmp k x))) es) ≡ find cmp q es
    find-removed_apart exact q k es apart = find-removed_other q k es (no_tie (cmp k q) (λ tie. apart (sym (exact k q tie))))

    -- a put of what is there already changes nothing
    pub put-found : (k : K) (v : X) (es : List (K × X)) → T (is_sorted cmp es) → find cmp k es ≡ Some v → put cmp k v es ≡ es
    put-found k v [] h is = cc
    put-found k v (e ∷ es) h is =
        elim (cmp k e.0) as (λ r. cmp k e.0 ≡ r → cond (is_eq r) (Some e.1) (find cmp k es) ≡ Some v → by_order r ((k, v) ∷ e ∷ es) ((e.0, v) ∷ es) (e ∷ put cmp k v es) ≡ e ∷ es) [
          | Less ↦ λ p found. let none = find-below k es (below-less k e.0 es p (first _ _ h)) in cc
          | Equal ↦ λ p found. let same : e.1 ≡ v = cc in ap (λ x. (e.0, x) ∷ es) (sym same)
          | Greater ↦ λ p found. ap (λ rest. e ∷ rest) (put-found k v es (second _ _ h) found)
        ] refl is

    -- a put at a key that is found keeps the keys
    pub keys-put_found : (k : K) (v : X) (es : List (K × X)) → T (is_sorted cmp es) → is_some (find cmp k es) ≡ true → keys_of (put cmp k v es) ≡ keys_of es
    keys-put_found k v [] h found = cc
    keys-put_found k v (e ∷ es) h found =
        elim (cmp k e.0) as (λ r. cmp k e.0 ≡ r → is_some (cond (is_eq r) (Some e.1) (find cmp k es)) ≡ true → keys_of (by_order r ((k, v) ∷ e ∷ es) ((e.0, v) ∷ es) (e ∷ put cmp k v es)) ≡ e.0 ∷ keys_of es) [
          | Less ↦ λ p some. let none = ap is_some (find-below k es (below-less k e.0 es p (first _ _ h))) in cc
          | Equal ↦ λ p some. refl
          | Greater ↦ λ p some. ap (λ ks. e.0 ∷ ks) (keys-put_found k v es (second _ _ h) some)
        ] refl found

    -- a sum over the values after a put: the old value goes and the new one comes
    pub sum_by-put : (f : X → ℕ) (k : K) (v : X) (es : List (K × X)) → T (is_sorted cmp es) → sum_by (λ e. f e.1) (put cmp k v es) + option_map_or f (find cmp k es) 0 ≡ sum_by (λ e. f e.1) es + f v
    sum_by-put f k v [] h = omega arith
    sum_by-put f k v (e ∷ es) h =
        let of = λ (row : K × X). f row.1 in
        elim (cmp k e.0) as (λ r. cmp k e.0 ≡ r → sum_by (λ row. f row.1) (by_order r ((k, v) ∷ e ∷ es) ((e.0, v) ∷ es) (e ∷ put cmp k v es)) + option_map_or f (cond (is_eq r) (Some e.1) (find cmp k es)) 0 ≡ sum_by (λ row. f row.1) (e ∷ es) + f v) [
          | Less ↦ λ p. first_more (f v) (f e.1) _ _ _ _ (sum_by-cons of (k, v) (e ∷ es)) (sum_by-cons of e es) (ap (λ o. option_map_or f o 0) (find-below k es (below-less k e.0 es p (first _ _ h))))
          | Equal ↦ λ p. first_changes (f v) (f e.1) _ _ _ (sum_by-cons of (e.0, v) es) (sum_by-cons of e es)
          | Greater ↦ λ p. first_stays (f v) (f e.1) _ _ _ _ _ (sum_by-cons of e (put cmp k v es)) (sum_by-cons of e es) (sum_by-put f k v es (second _ _ h))
        ] refl

    -- and after a key was removed
    pub sum_by-removed : (f : X → ℕ) (k : K) (es : List (K × X)) → T (is_sorted cmp es) → sum_by (λ e. f e.1) (where_key cmp (λ x. not (is_eq (cmp k x))) es) + option_map_or f (find cmp k es) 0 ≡ sum_by (λ e. f e.1) es
    sum_by-removed f k [] h = omega arith
    sum_by-removed f k (e ∷ es) h =
        let left = where_key cmp (λ x. not (is_eq (cmp k x))) es in
        let of = λ (row : K × X). f row.1 in
        let rest = sum_by-removed f k es (second _ _ h) in
        elim (eq_by_cmp cmp k e.0) as (λ t. eq_by_cmp cmp k e.0 ≡ t → sum_by (λ row. f row.1) (cond (not t) (e ∷ left) left) + option_map_or f (cond t (Some e.1) (find cmp k es)) 0 ≡ sum_by (λ row. f row.1) (e ∷ es)) [
          | true ↦ λ t. first_goes (f e.1) _ _ _ _ (sum_by-cons of e es) (ap (λ o. option_map_or f o 0) (find-behind k e es h (ties _ t))) rest
          | false ↦ λ t. first_left (f e.1) _ _ _ _ _ (sum_by-cons of e left) (sum_by-cons of e es) rest
        ] refl

-- lists with the same keys have a key alike
pub is_some-find_both : {K X Y : Type 0} (cmp : K → K → Ordering) (q : K) (es : List (K × X)) (fs : List (K × Y)) → keys_of es ≡ keys_of fs → is_some (find cmp q es) ≡ is_some (find cmp q fs)
is_some-find_both cmp q es fs same = is_some-find cmp q es ∙ ap (list_any (eq_by_cmp cmp q)) same ∙ sym (is_some-find cmp q fs)

-- lists with the same keys stand alike above a key
below_all-both : {K X Y : Type 0} (cmp : K → K → Ordering) (x : K) (es : List (K × X)) (fs : List (K × Y)) → keys_of es ≡ keys_of fs → below_all cmp x es ≡ below_all cmp x fs
below_all-both cmp x [] [] same = refl
below_all-both cmp x [] (f ∷ fs) same = cc
below_all-both cmp x (e ∷ es) [] same = cc
below_all-both cmp x (e ∷ es) (f ∷ fs) same =
    let key : e.0 ≡ f.0 = cc in
    let others : keys_of es ≡ keys_of fs = cc in
    λ i. is_lt (cmp x (key i)) && below_all-both cmp x es fs others i

-- lists with the same keys are in order alike
pub is_sorted-both : {K X Y : Type 0} (cmp : K → K → Ordering) (es : List (K × X)) (fs : List (K × Y)) → keys_of es ≡ keys_of fs → is_sorted cmp es ≡ is_sorted cmp fs
is_sorted-both cmp [] [] same = refl
is_sorted-both cmp [] (f ∷ fs) same = cc
is_sorted-both cmp (e ∷ es) [] same = cc
is_sorted-both cmp (e ∷ es) (f ∷ fs) same =
    let key : e.0 ≡ f.0 = cc in
    let others : keys_of es ≡ keys_of fs = cc in
    ap (λ x. below_all cmp x es && is_sorted cmp es) key ∙ (λ i. below_all-both cmp f.0 es fs others i && is_sorted-both cmp es fs others i)

-- what is found where each value became another
pub find-map : {K X Y : Type 0} (cmp : K → K → Ordering) (f : X → Y) (q : K) (es : List (K × X)) → find cmp q (map (λ e. (e.0, f e.1)) es) ≡ option_map f (find cmp q es)
find-map cmp f q [] = refl
find-map cmp f q (e ∷ es) =
    elim (eq_by_cmp cmp q e.0) as (λ b. cond b (Some (f e.1)) (find cmp q (map (λ e. (e.0, f e.1)) es)) ≡ option_map f (cond b (Some e.1) (find cmp q es))) [ true ↦ refl | false ↦ find-map cmp f q es ]

-- a key below the keys of one list is below the same keys of another
all-below_keys : {K X Y : Type 0} (cmp : K → K → Ordering) (x : K) (es : List (K × X)) (fs : List (K × Y)) → keys_of fs ≡ keys_of es → T (below_all cmp x es) → AllByRecursion (λ f. cmp x f.0 ≡ Less) fs
all-below_keys cmp x es fs same h =
    all-from_map (λ k. cmp x k ≡ Less) (λ f. f.0) fs (subst (λ ks. AllByRecursion (λ k. cmp x k ≡ Less) ks) (sym same) (all-map (λ k. cmp x k ≡ Less) (λ e. e.0) es (all-below cmp x es h)))

-- of rows above the first of a list, those are in the list that are in the rest of it
where_key-rest : {K X Y : Type 0} (cmp : K → K → Ordering) → IsTotalOrder cmp → (e : K × X) (es : List (K × X)) (fs : List (K × Y)) → AllByRecursion (λ f. cmp e.0 f.0 ≡ Less) fs → where_key cmp (λ k. is_some (find cmp k (e ∷ es))) fs ≡ where_key cmp (λ k. is_some (find cmp k es)) fs
where_key-rest cmp total e es fs above =
    filter_agree_within (λ row. is_some (find cmp row.0 (e ∷ es))) (λ row. is_some (find cmp row.0 es)) fs
    (all-weaker (λ row. cmp e.0 row.0 ≡ Less) (λ row. is_some (find cmp row.0 (e ∷ es)) ≡ is_some (find cmp row.0 es)) (λ row low. ap is_some {x = find cmp row.0 (e ∷ es)} {y = find cmp row.0 es} (find-above cmp total row.0 e es low)) fs above)

-- rows with the keys of es, of which those stay whose key is left after a filter of es, have the keys that are left
pub keys-kept : {K X Y : Type 0} (cmp : K → K → Ordering) → IsTotalOrder cmp → (p : K × X → Bool) (es : List (K × X)) (fs : List (K × Y)) → T (is_sorted cmp es) → keys_of fs ≡ keys_of es → keys_of (where_key cmp (λ k. is_some (find cmp k (filter p es))) fs) ≡ keys_of (filter p es)
keys-kept cmp total p [] [] h same = refl
keys-kept cmp total p [] (f ∷ fs) h same = cc
keys-kept cmp total p (e ∷ es) [] h same = cc
keys-kept {K} {X} {Y} cmp total p (e ∷ es) (f ∷ fs) h same =
    let key : f.0 ≡ e.0 = cc in
    let others : keys_of fs ≡ keys_of es = cc in
    let rest = keys-kept cmp total p es fs (second _ _ h) others in
    elim (p e) as (λ b. keys_of (where_key cmp (λ k. is_some (find cmp k (cond b (e ∷ filter p es) (filter p es)))) (f ∷ fs)) ≡ keys_of (cond b (e ∷ filter p es) (filter p es))) [
      | true ↦
          let found = ap (λ k. is_some (find cmp k (e ∷ filter p es))) key ∙ ap is_some (find-first cmp total e (filter p es)) in
          let left = where_key cmp (λ k. is_some (find cmp k (e ∷ filter p es))) fs in
          ap (λ b. keys_of (cond b (f ∷ left) left)) found
          ∙ ap (λ ks. f.0 ∷ ks) (ap keys_of (where_key-rest cmp total e (filter p es) fs (all-below_keys cmp e.0 es fs others (first _ _ h))) ∙ rest)
          ∙ ap (λ k. k ∷ keys_of (filter p es)) key
      | false ↦
          let lost = ap (λ k. is_some (find cmp k (filter p es))) key ∙ ap is_some (find-below cmp e.0 (filter p es) (below_all-filter cmp e.0 p es (first _ _ h))) in
          let left = where_key cmp (λ k. is_some (find cmp k (filter p es))) fs in
          ap (λ b. keys_of (cond b (f ∷ left) left)) lost ∙ rest
    ]

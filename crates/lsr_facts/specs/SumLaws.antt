-- Laws of filters, greatest numbers, sums over distinct values, and puts.
use Rattle.std.specs.Prelude.{◌≡◌, ℕ, ◌≤◌, ◌+◌, Bool, true, false, cond, if◌then◌else◌, not, ◌&&◌, ◌||◌, T, List, [], ◌∷◌, map, nat_lt, None, Some, IfSome}
use Rattle.std.specs.List.{AllByRecursion, Contains, IsDistinct, dedup, dedup_from, filter, list_any, sum_by}
use Rattle.std.specs.Cmp.{IsTotalOrder}
use Rattle.std.specs.Ordering.{eq_by_cmp, is_eq}
use Rattle.std.specs.declared.cmp.Ordering.{Ordering}
use Rattle.std.specs.declared.cmp.Ordering.TheVariants.{Less, Equal, Greater}
use Rattle.std.specs.FinMap.Entries.{by_order, find, find-put, find-where_key, is_sorted, is_sorted-put, is_sorted-where_key, put, same_entries, where_key}
use Rattle.std.proofs.Common.{refl, sym, ap, ◌∙◌, ⊎_elim, arith, le_trans}
use Rattle.std.proofs.lemmas.Bool.{false≢true, or_parts}
use Rattle.std.proofs.lemmas.Bool.Decides.{nat_tests}
use Rattle.std.proofs.lemmas.List.Elements.{All-contains, Contains-append_cases, filter_agree, filter_passes}
use Rattle.std.proofs.lemmas.List.Filters.{sum_by-filter_both}
use Rattle.std.proofs.lemmas.List.Sorted.{Contains-permutation, IsPermutation-filter_both}
use Rattle.std.proofs.lemmas.List.Sums.{sum_by-cons}
use Rattle.std.proofs.lemmas.Map.Keys.{IsDistinct-head, IsDistinct-tail}
use Rattle.std.proofs.lemmas.Map.Views.{any-filter_same}
use Rattle.sorted_rows.specs.ListLaws.{all-both, all-weaker, filter_agree_within}
use Rattle.sorted_rows.specs.RowsLaws.{find-before, find-behind, second, ties, where_key-absent}
use Rattle.lsr_facts.specs.Claims.{greatest}

-- two tests in either order
and_swap : (a b : Bool) → (a && b) ≡ (b && a)
and_swap true true = refl
and_swap true false = refl
and_swap false true = refl
and_swap false false = refl

-- a test beside one that follows from it
and_stronger : (a b : Bool) → (b ≡ true → a ≡ true) → (a && b) ≡ b
and_stronger true b h = refl
and_stronger false true h = h refl
and_stronger false false h = refl

-- a test that is repeated
or_twice : (a b : Bool) → (a || b) ≡ (a || (a || b))
or_twice true b = refl
or_twice false b = refl

-- what a test keeps of a choice by one from which it follows
put_kept : {A : Type 0} (a b : Bool) (x y z : A) → (b ≡ true → a ≡ true) → cond a (cond b x y) z ≡ cond b x (cond a y z)
put_kept true b x y z h = refl
put_kept false true x y z h = absurd (false≢true (h refl))
put_kept false false x y z h = refl

-- a filter after another is one by both tests
pub filter-filter : {A : Type 0} (p q : A → Bool) (xs : List A) → filter p (filter q xs) ≡ filter (λ x. q x && p x) xs
filter-filter p q [] = refl
filter-filter {A} p q (x ∷ xs) =
    elim (q x) as (λ b. filter p (cond b (x ∷ filter q xs) (filter q xs)) ≡ cond (b && p x) (x ∷ filter (λ y. q y && p y) xs) (filter (λ y. q y && p y) xs)) [
      | true ↦ ap (λ (rest : List A). cond (p x) (x ∷ rest) rest) (filter-filter p q xs)
      | false ↦ filter-filter p q xs
    ]

-- two filters in either order keep the same
pub filter_swap : {A : Type 0} (p q : A → Bool) (xs : List A) → filter p (filter q xs) ≡ filter q (filter p xs)
filter_swap p q xs =
    filter-filter p q xs ∙ filter_agree (λ x. q x && p x) (λ x. p x && q x) (λ x. and_swap (q x) (p x)) xs ∙ sym (filter-filter q p xs)

-- where what passes one test passes another, a filter by the other changes nothing before the one
pub filter_within : {A : Type 0} (p q : A → Bool) (xs : List A) → AllByRecursion (λ x. p x ≡ true → q x ≡ true) xs → filter p (filter q xs) ≡ filter p xs
filter_within p q xs follows =
    filter-filter p q xs
    ∙ filter_agree_within (λ x. q x && p x) p xs (all-weaker (λ x. p x ≡ true → q x ≡ true) (λ x. (q x && p x) ≡ p x) (λ x h. and_stronger (q x) (p x) h) xs follows)

-- a filter of what f gives
pub filter-map : {A B : Type 0} (p : B → Bool) (f : A → B) (xs : List A) → filter p (map f xs) ≡ map f (filter (λ x. p (f x)) xs)
filter-map p f [] = refl
filter-map {A} {B} p f (x ∷ xs) =
    elim (p (f x)) as (λ b. cond b (f x ∷ filter p (map f xs)) (filter p (map f xs)) ≡ map f (cond b (x ∷ filter (λ y. p (f y)) xs) (filter (λ y. p (f y)) xs))) [
      | true ↦ ap (λ (rest : List B). f x ∷ rest) (filter-map p f xs)
      | false ↦ filter-map p f xs
    ]

-- where no element passes a test, none passes it and another
pub filter_none : {A B : Type 0} (p : B → Bool) (f : A → B) (q : A → Bool) (xs : List A) → list_any p (map f xs) ≡ false → filter (λ x. p (f x) && q x) xs ≡ []
filter_none p f q [] none = refl
filter_none p f q (x ∷ xs) none =
    let parts = or_parts (p (f x)) (list_any p (map f xs)) none in
    let rest = filter (λ y. p (f y) && q y) xs in
    ap (λ b. cond (b && q x) (x ∷ rest) rest) parts.0 ∙ filter_none p f q xs parts.1

-- what passes a test is among those that do
pub Contains-filter : {A : Type 0} (p : A → Bool) (xs : List A) (x : A) → p x ≡ true → Contains xs x → Contains (filter p xs) x
Contains-filter p xs x passes has =
    ⊎_elim (λ within. within)
    (λ within. absurd (false≢true (ap not (sym passes) ∙ All-contains (λ y. not (p y) ≡ true) (filter (λ y. not (p y)) xs) x (filter_passes (λ y. not (p y)) xs) within)))
    (Contains-append_cases (filter p xs) (filter (λ y. not (p y)) xs) x (Contains-permutation xs _ x (IsPermutation-filter_both p (λ y. not (p y)) (λ y. refl) xs) has))

-- the greater of a number and one that is no less than another
greater_le : (n a b : ℕ) → a ≤ b → (if nat_lt n a then a else n) ≤ (if nat_lt n b then b else n)
greater_le n a b h = grind (arith, nat_tests)

-- it is no less than that one
le_greater : (n b : ℕ) → b ≤ (if nat_lt n b then b else n)
le_greater n b = grind (arith, nat_tests)

-- the greatest of fewer numbers is no greater
pub greatest-filter-le : {A : Type 0} (f : A → ℕ) (p : A → Bool) (xs : List A) → greatest (map f (filter p xs)) ≤ greatest (map f xs)
greatest-filter-le f p [] = omega arith
greatest-filter-le f p (x ∷ xs) =
    let rest = greatest-filter-le f p xs in
    elim (p x) as (λ b. greatest (map f (cond b (x ∷ filter p xs) (filter p xs))) ≤ greatest (f x ∷ map f xs)) [
      | true ↦ greater_le (f x) (greatest (map f (filter p xs))) (greatest (map f xs)) rest
      | false ↦ le_trans rest (le_greater (f x) (greatest (map f xs)))
    ]

-- a sum of fewer terms is no greater
pub sum_by-filter-le : {A : Type 0} (f : A → ℕ) (p : A → Bool) (xs : List A) → sum_by f (filter p xs) ≤ sum_by f xs
sum_by-filter-le f p xs = omega (arith, sum_by-filter_both p (λ x. not (p x)) (λ x. refl) f xs)

-- the steps of the law on such sums, where a is the sum over distinct values, b that over the others, v the first term
-- of a, s what is left of a, and t what is left of b without that value
one_more : (v s t a b : ℕ) → a ≡ v + s → s ≤ t → v + t ≤ b → a ≤ b
one_more v s t a b is rest within = omega arith

none_more : (v s t a b : ℕ) → a ≡ v + s → v ≡ 0 → s ≤ t → t ≤ b → a ≤ b
none_more v s t a b is none rest within = omega arith

both_within : (v s t b : ℕ) → s + t ≡ b → v ≤ s → v + t ≤ b
both_within v s t b is one = omega arith

module _ {A : Type 0} (same : A → A → Bool) (exact : (x y : A) → same x y ≡ true → x ≡ y) where
  -- a value is found among those that another is not the same as, as among all
  any_of_others : (x z : A) (ys : List A) → same x z ≡ false → list_any (same z) (filter (λ y. not (same x y)) ys) ≡ list_any (same z) ys
  any_of_others x z ys far = any-filter_same (same z) (λ y. not (same x y)) true (λ k is. ap not (sym (ap (same x) (exact z k is)) ∙ far)) ys

  -- a term is within the sum over what is the same
  term_within : (f : A → ℕ) (x : A) (ys : List A) → list_any (same x) ys ≡ true → f x ≤ sum_by f (filter (same x) ys)
  term_within f x [] found = absurd (false≢true found)
  term_within f x (y ∷ ys) found =
      elim (same x y) as (λ b. same x y ≡ b → (b || list_any (same x) ys) ≡ true → f x ≤ sum_by f (cond b (y ∷ filter (same x) ys) (filter (same x) ys))) [
        | true ↦ λ is any. omega (arith, sum_by-cons f y (filter (same x) ys), ap f (exact x y is))
        | false ↦ λ is any. term_within f x ys any
      ] refl found

  -- A sum over distinct values is at most that over a list that has each of them whose term isn't 0.
  pub sum_by-cover : (f : A → ℕ) (xs ys : List A) → IsDistinct same xs → AllByRecursion (λ x. list_any (same x) ys ≡ false → f x ≡ 0) xs → sum_by f xs ≤ sum_by f ys
  sum_by-cover f [] ys apart none = omega arith
  sum_by-cover f (x ∷ xs) ys apart none =
      let left = all-both (λ z. same x z ≡ false) (λ z. list_any (same z) ys ≡ false → f z ≡ 0) (λ z. list_any (same z) (filter (λ y. not (same x y)) ys) ≡ false → f z ≡ 0) (λ z far zero absent. zero (sym (any_of_others x z ys far) ∙ absent)) xs (IsDistinct-head same x xs apart) none.1 in
      let rest = sum_by-cover f xs (filter (λ y. not (same x y)) ys) (IsDistinct-tail same x xs apart) left in
      let both = sum_by-filter_both (same x) (λ y. not (same x y)) (λ y. refl) f ys in
      elim (list_any (same x) ys) as (λ b. list_any (same x) ys ≡ b → sum_by f (x ∷ xs) ≤ sum_by f ys) [
        | true ↦ λ found. one_more (f x) _ _ _ _ (sum_by-cons f x xs) rest (both_within (f x) _ _ _ both (term_within f x ys found))
        | false ↦ λ absent. none_more (f x) _ _ _ _ (sum_by-cons f x xs) (none.0 absent) rest (sum_by-filter-le f (λ y. not (same x y)) ys)
      ] refl

  -- `dedup_from` keeps the value that it starts from, and each of the list
  any-dedup_from : (q k : A) (xs : List A) → list_any (same q) (dedup_from same k xs) ≡ (same q k || list_any (same q) xs)
  any-dedup_from q k [] = refl
  any-dedup_from q k (x ∷ xs) =
      elim (same x k) as (λ b. same x k ≡ b → list_any (same q) (cond b (dedup_from same k xs) (k ∷ dedup_from same x xs)) ≡ (same q k || (same q x || list_any (same q) xs))) [
        | true ↦ λ is. any-dedup_from q k xs ∙ or_twice (same q k) (list_any (same q) xs) ∙ ap (λ y. same q k || (same q y || list_any (same q) xs)) (sym (exact x k is))
        | false ↦ λ is. ap (λ b. same q k || b) (any-dedup_from q x xs)
      ] refl

  -- `dedup` keeps each value
  pub any-dedup : (q : A) (xs : List A) → list_any (same q) (dedup same xs) ≡ list_any (same q) xs
  any-dedup q [] = refl
  any-dedup q (x ∷ xs) = any-dedup_from q x xs

module _ {K X : Type 0} (cmp : K → K → Ordering) where
  -- a put of a value that fails a test, where the old one fails it too, leaves what passes
  pub filter-put_unseen : (p : K × X → Bool) (k : K) (v : X) → ((x : K) → p (x, v) ≡ false) → (es : List (K × X)) → IfSome (find cmp k es) (λ old. (x : K) → p (x, old) ≡ false) → filter p (put cmp k v es) ≡ filter p es
  filter-put_unseen p k v unseen [] none = ap (λ b. cond b ((k, v) ∷ []) []) (unseen k)
  filter-put_unseen p k v unseen (e ∷ es) none =
      elim (cmp k e.0) as (λ r. IfSome (cond (is_eq r) (Some e.1) (find cmp k es)) (λ old. (x : K) → p (x, old) ≡ false) → filter p (by_order r ((k, v) ∷ e ∷ es) ((e.0, v) ∷ es) (e ∷ put cmp k v es)) ≡ filter p (e ∷ es)) [
        | Less ↦ λ old. ap (λ b. cond b ((k, v) ∷ filter p (e ∷ es)) (filter p (e ∷ es))) (unseen k)
        | Equal ↦ λ old. ap (λ b. cond b ((e.0, v) ∷ filter p es) (filter p es)) (unseen e.0) ∙ sym (ap (λ b. cond b (e ∷ filter p es) (filter p es)) (old e.0))
        | Greater ↦ λ old. ap (λ (rest : List (K × X)). cond (p e) (e ∷ rest) rest) (filter-put_unseen p k v unseen es old)
      ] none

  module _ (total : IsTotalOrder cmp) where
    -- a put of a value that fails a test takes the key from what passes
    pub filter-put_away : (p : K × X → Bool) (k : K) (v : X) → ((x : K) → p (x, v) ≡ false) → (es : List (K × X)) → T (is_sorted cmp es) → filter p (put cmp k v es) ≡ filter p (where_key cmp (λ x. not (is_eq (cmp k x))) es)
    filter-put_away p k v unseen [] h = ap (λ b. cond b ((k, v) ∷ []) []) (unseen k)
    filter-put_away p k v unseen (e ∷ es) h =
        let left = where_key cmp (λ x. not (is_eq (cmp k x))) es in
        elim (cmp k e.0) as (λ r. cmp k e.0 ≡ r → filter p (by_order r ((k, v) ∷ e ∷ es) ((e.0, v) ∷ es) (e ∷ put cmp k v es)) ≡ filter p (where_key cmp (λ x. not (is_eq (cmp k x))) (e ∷ es))) [
          | Less ↦ λ is. ap (λ b. cond b ((k, v) ∷ filter p (e ∷ es)) (filter p (e ∷ es))) (unseen k) ∙ sym (ap (filter p) (where_key-absent cmp k (e ∷ es) (find-before cmp total k e es h is)))
          | Equal ↦ λ is.
              ap (λ b. cond b ((e.0, v) ∷ filter p es) (filter p es)) (unseen e.0)
              ∙ sym (ap (λ r. filter p (cond (not (is_eq r)) (e ∷ left) left)) is ∙ ap (filter p) (where_key-absent cmp k es (find-behind cmp total k e es h is)))
          | Greater ↦ λ is.
              ap (λ (rest : List (K × X)). cond (p e) (e ∷ rest) rest) (filter-put_away p k v unseen es (second _ _ h))
              ∙ sym (ap (λ r. filter p (cond (not (is_eq r)) (e ∷ left) left)) is)
        ] refl

    -- a filter by keys that keeps the key that is put may as well come first
    pub where_key-put : ((x y : K) → cmp x y ≡ Equal → x ≡ y) → (f : K → Bool) (k : K) (v : X) (es : List (K × X)) → f k ≡ true → T (is_sorted cmp es) → where_key cmp f (put cmp k v es) ≡ put cmp k v (where_key cmp f es)
    where_key-put exact f k v es keeps h =
        let alike : (q : K) → (x : K) → cmp q x ≡ Equal → f x ≡ f q = λ q x tie. ap f (sym (exact q x tie)) in
        same_entries cmp total exact (where_key cmp f (put cmp k v es)) (put cmp k v (where_key cmp f es)) (is_sorted-where_key cmp f (put cmp k v es) (is_sorted-put cmp total k v es h)) (is_sorted-put cmp total k v (where_key cmp f es) (is_sorted-where_key cmp f es h))
        (λ q. find-where_key cmp f q (alike q) (put cmp k v es)
        ∙ ap (λ o. cond (f q) o None) (find-put cmp total q k v es)
        ∙ put_kept (f q) (eq_by_cmp cmp q k) (Some v) (find cmp q es) None (λ tie. ap f (exact q k (ties _ tie)) ∙ keeps)
        ∙ sym (ap (cond (eq_by_cmp cmp q k) (Some v)) (find-where_key cmp f q (alike q) es))
        ∙ sym (find-put cmp total q k v (where_key cmp f es)))

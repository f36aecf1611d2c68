-- Laws of lists and of rows that the laws of the router stand on, beside those of `sorted_rows`.
use Rattle.std.specs.Prelude.{◌≡◌, ℕ, suc, ◌+◌, ◌<◌, ◌≤◌, ◌++◌, ◌&&◌, not, Bool, true, false, cond, T, List, [], ◌∷◌, map, drop, take, length, Option, Some, None, IfSome, IfOk}
use Rattle.std.specs.Cmp.{IsTotalOrder}
use Rattle.std.specs.FinMap.Entries.{by_order, is_sorted, put, where_key}
use Rattle.std.specs.List.{AllByRecursion, cons_option, filter, filter_map, find, fold, list_all, reduce, flat_map}
use Rattle.std.specs.Option.{ok_or, option_map, option_or, option_to_list}
use Rattle.std.specs.Ordering.{is_eq}
use Rattle.std.specs.declared.cmp.Ordering.{Ordering}
use Rattle.std.specs.declared.cmp.Ordering.TheVariants.{Less, Equal, Greater}
use Rattle.std.proofs.Common.{get_or, refl, sym, ap, subst, ◌∙◌, zero, arith, length-append}
use Rattle.std.proofs.lemmas.Bool.{and_parts}
use Rattle.std.proofs.lemmas.List.{take_more}
use Rattle.std.proofs.lemmas.List.Elements.{filter_map-append}
use Rattle.sorted_rows.specs.Rows.{keys_of}
use Rattle.sorted_rows.specs.RowsLaws.{find-before, find-behind, where_key-absent}

-- what holds of each element holds of the one that is found
pub find-holds : {A : Type 0} (P : A → Type 0) (test : A → Bool) (xs : List A) → AllByRecursion P xs → IfSome (find test xs) P
find-holds P test [] h = tt
find-holds P test (x ∷ xs) h = elim (test x) as (λ b. IfSome (cond b (Some x) (find test xs)) P) [ true ↦ h.0 | false ↦ find-holds P test xs h.1 ]

-- the element that is found passes the test
pub find-passes : {A : Type 0} (test : A → Bool) (xs : List A) → IfSome (find test xs) (λ x. test x ≡ true)
find-passes test [] = tt
find-passes test (x ∷ xs) =
    elim (test x) as (λ b. test x ≡ b → IfSome (cond b (Some x) (find test xs)) (λ y. test y ≡ true)) [ true ↦ λ passes. passes | false ↦ λ fails. find-passes test xs ] refl

-- what holds of each element, and of what f makes of two, holds of what f makes of them all
pub fold-holds : {A : Type 0} (P : A → Type 0) (f : A → A → A) → ((x y : A) → P x → P y → P (f x y)) → (xs : List A) (x : A) → P x → AllByRecursion P xs → P (fold f x xs)
fold-holds P f keeps [] x first h = first
fold-holds P f keeps (y ∷ ys) x first h = fold-holds P f keeps ys (f x y) (keeps x y first h.0) h.1

pub reduce-holds : {A : Type 0} (P : A → Type 0) (f : A → A → A) → ((x y : A) → P x → P y → P (f x y)) → (xs : List A) → AllByRecursion P xs → IfSome (reduce f xs) P
reduce-holds P f keeps [] h = tt
reduce-holds P f keeps (x ∷ xs) h = fold-holds P f keeps xs x h.0 h.1

-- what holds of what may be there holds of what is made of it
pub option_map-holds : {A B : Type 0} (P : B → Type 0) (f : A → B) (o : Option A) → IfSome o (λ x. P (f x)) → IfSome (option_map f o) P
option_map-holds P f None h = tt
option_map-holds P f (Some x) h = h

pub option_or-holds : {A : Type 0} (P : A → Type 0) (o p : Option A) → IfSome o P → IfSome p P → IfSome (option_or o p) P
option_or-holds P None p g h = h
option_or-holds P (Some x) p g h = g

pub ok_or-holds : {A E : Type 0} (P : A → Type 0) (o : Option A) (e : E) → IfSome o P → IfOk (ok_or o e) P
ok_or-holds P None e h = tt
ok_or-holds P (Some x) e h = h

-- a filter makes no list longer
pub length-filter_most : {A : Type 0} (p : A → Bool) (xs : List A) → length (filter p xs) ≤ length xs
length-filter_most p [] = omega arith
length-filter_most p (x ∷ xs) =
    let rest = length-filter_most p xs in
    elim (p x) as (λ b. length (cond b (x ∷ filter p xs) (filter p xs)) ≤ suc (length xs)) [ true ↦ omega arith | false ↦ omega arith ]

-- nor are more elements of a filtered list kept by another test
pub length-filter_twice : {A : Type 0} (p q : A → Bool) (xs : List A) → length (filter p (filter q xs)) ≤ length (filter p xs)
length-filter_twice p q [] = omega arith
length-filter_twice p q (x ∷ xs) =
    let rest = length-filter_twice p q xs in
    elim (q x) as (λ b. length (filter p (cond b (x ∷ filter q xs) (filter q xs))) ≤ length (cond (p x) (x ∷ filter p xs) (filter p xs))) [
      | true ↦ elim (p x) as (λ b. length (cond b (x ∷ filter p (filter q xs)) (filter p (filter q xs))) ≤ length (cond b (x ∷ filter p xs) (filter p xs))) [ true ↦ omega arith | false ↦ rest ]
      | false ↦ elim (p x) as (λ b. length (filter p (filter q xs)) ≤ length (cond b (x ∷ filter p xs) (filter p xs))) [ true ↦ omega arith | false ↦ rest ]
    ]

-- an element more, or another in its place, is one more at most that a filter keeps
one_kept : {A : Type 0} (test : A → Bool) (x : A) (xs : List A) → length (filter test (x ∷ xs)) ≤ length (filter test xs) + 1
one_kept test x xs = elim (test x) as (λ b. length (cond b (x ∷ filter test xs) (filter test xs)) ≤ length (filter test xs) + 1) [ true ↦ omega arith | false ↦ omega arith ]

-- and it is none where it fails the test
none_kept : {A : Type 0} (test : A → Bool) (x : A) (xs : List A) → test x ≡ false → filter test (x ∷ xs) ≡ filter test xs
none_kept test x xs fails = ap (λ b. cond b (x ∷ filter test xs) (filter test xs)) fails

-- but those behind it are kept as before
rest_kept : {A : Type 0} (test : A → Bool) (x : A) (xs : List A) → length (filter test xs) ≤ length (filter test (x ∷ xs))
rest_kept test x xs = elim (test x) as (λ b. length (filter test xs) ≤ length (cond b (x ∷ filter test xs) (filter test xs))) [ true ↦ omega arith | false ↦ omega arith ]

-- a list that a filter keeps fewer of than of another is so behind the same element
kept_behind : {A : Type 0} (test : A → Bool) (x : A) (n : ℕ) (xs ys : List A) → length (filter test xs) ≤ length (filter test ys) + n → length (filter test (x ∷ xs)) ≤ length (filter test (x ∷ ys)) + n
kept_behind test x n xs ys most =
    elim (test x) as (λ b. length (cond b (x ∷ filter test xs) (filter test xs)) ≤ length (cond b (x ∷ filter test ys) (filter test ys)) + n) [ true ↦ omega (arith, most) | false ↦ most ]

-- what stands behind the first elements is no longer than the whole
pub length-drop_most : {A : Type 0} (n : ℕ) (xs : List A) → length (drop n xs) ≤ length xs
length-drop_most zero xs = omega arith
length-drop_most (suc n) [] = omega arith
length-drop_most (suc n) (x ∷ xs) = omega (arith, length-drop_most n xs)

-- what holds of all items holds of those from a place on
pub list_all-drop : {A : Type 0} (test : A → Bool) (n : ℕ) (xs : List A) → list_all test xs ≡ true → list_all test (drop n xs) ≡ true
list_all-drop test zero xs h = h
list_all-drop test (suc n) [] h = h
list_all-drop test (suc n) (x ∷ xs) h = list_all-drop test n xs (and_parts (test x) (list_all test xs) h).1

-- nor are its parts together
pub flat_map-drop_most : {A B : Type 0} (f : A → List B) (n : ℕ) (xs : List A) → length (flat_map f (drop n xs)) ≤ length (flat_map f xs)
flat_map-drop_most f zero xs = omega arith
flat_map-drop_most f (suc n) [] = omega arith
flat_map-drop_most f (suc n) (x ∷ xs) = omega (arith, flat_map-drop_most f n xs, length-append (f x) (flat_map f xs))

-- what there may be, as a list
listed : {Y : Type 0} (o : Option Y) → option_to_list o ≡ cons_option o []
listed None = refl
listed (Some y) = refl

-- one more of the list is asked: what it gives is put behind
pub one_more : {X Y : Type 0} (f : X → Option Y) (before after : List Y) (xs : List X) (i : ℕ) (x : X) (o : Option Y) → i < length xs → x ≡ get_or xs i x → before ≡ filter_map f (take i xs) → o ≡ f x → after ≡ before ++ option_to_list o → after ≡ filter_map f (take (i + 1) xs)
one_more {X} {Y} f before after xs i x o within is e gives a =
    let items : take (i + 1) xs ≡ take i xs ++ x ∷ [] = take_more xs i x within ∙ ap (λ (v : X). take i xs ++ v ∷ []) (sym is) in
    a ∙ (λ k. e k ++ option_to_list (gives k))
    ∙ ap (λ (ys : List Y). filter_map f (take i xs) ++ ys) (listed (f x))
    ∙ sym (filter_map-append f (take i xs) (x ∷ []))
    ∙ ap (λ (vs : List X). filter_map f vs) (sym items)

-- rows whose values became others have their keys
pub keys-map : {K X Y : Type 0} (f : K × X → Y) (es : List (K × X)) → keys_of (map (λ e. (e.0, f e)) es) ≡ keys_of es
keys-map f [] = refl
keys-map f (e ∷ es) = ap (λ ks. e.0 ∷ ks) (keys-map f es)

-- two tests that pass
pub first : (a b : Bool) → T (a && b) → T a
first true b p = tt
first false b p = p

pub second : (a b : Bool) → T (a && b) → T b
second true b p = p
second false b p = absurd p

pub both : (a b : Bool) → T a → T b → T (a && b)
both true b p q = q
both false b p q = p

module _ {K X : Type 0} (cmp : K → K → Ordering) where
  -- rows are there after a put
  pub length-put_some : (k : K) (v : X) (es : List (K × X)) → 1 ≤ length (put cmp k v es)
  length-put_some k v [] = omega arith
  length-put_some k v (e ∷ es) =
      elim (cmp k e.0) as (λ r. 1 ≤ length (by_order r ((k, v) ∷ e ∷ es) ((e.0, v) ∷ es) (e ∷ put cmp k v es))) [ Less ↦ omega arith | Equal ↦ omega arith | Greater ↦ omega arith ]

  -- a put of what fails a test adds no row that passes
  pub length-filter_put_none : (test : K × X → Bool) (k : K) (v : X) (es : List (K × X)) → ((x : K) → test (x, v) ≡ false) → length (filter test (put cmp k v es)) ≤ length (filter test es)
  length-filter_put_none test k v [] fails = omega (arith, ap length (none_kept test (k, v) [] (fails k)))
  length-filter_put_none test k v (e ∷ es) fails =
      elim (cmp k e.0) as (λ r. length (filter test (by_order r ((k, v) ∷ e ∷ es) ((e.0, v) ∷ es) (e ∷ put cmp k v es))) ≤ length (filter test (e ∷ es))) [
        | Less ↦ omega (arith, ap length (none_kept test (k, v) (e ∷ es) (fails k)))
        | Equal ↦ omega (arith, ap length (none_kept test (e.0, v) es (fails e.0)), rest_kept test e es)
        | Greater ↦ omega (arith, kept_behind test e 0 (put cmp k v es) es (omega (arith, length-filter_put_none test k v es fails)))
      ]

  -- any put adds one at most to those of the other rows that pass
  pub length-filter_put : IsTotalOrder cmp → (test : K × X → Bool) (k : K) (v : X) (es : List (K × X)) → T (is_sorted cmp es) → length (filter test (put cmp k v es)) ≤ length (filter test (where_key cmp (λ x. not (is_eq (cmp k x))) es)) + 1
  length-filter_put total test k v [] h = one_kept test (k, v) []
  length-filter_put total test k v (e ∷ es) h =
      let others = where_key cmp (λ x. not (is_eq (cmp k x))) in
      elim (cmp k e.0) as (λ r. cmp k e.0 ≡ r → length (filter test (by_order r ((k, v) ∷ e ∷ es) ((e.0, v) ∷ es) (e ∷ put cmp k v es))) ≤ length (filter test (cond (not (is_eq r)) (e ∷ others es) (others es))) + 1) [
        | Less ↦ λ p.
            let same : e ∷ others es ≡ e ∷ es = ap (λ o. cond (not (is_eq o)) (e ∷ others es) (others es)) (sym p) ∙ where_key-absent cmp k (e ∷ es) (find-before cmp total k e es h p) in
            subst (λ rows. length (filter test ((k, v) ∷ e ∷ es)) ≤ length (filter test rows) + 1) (sym same) (one_kept test (k, v) (e ∷ es))
        | Equal ↦ λ p. omega (arith, one_kept test (e.0, v) es, ap (λ rows. length (filter test rows)) (where_key-absent cmp k es (find-behind cmp total k e es h p)))
        | Greater ↦ λ p. kept_behind test e 1 (put cmp k v es) (others es) (length-filter_put total test k v es (second _ _ h))
      ] refl

-- a filter of what g gives is what g gives of what a test keeps, where this answers each element as the filter its gift
pub filter-filter_map : {A B : Type 0} (g : A → Option B) (p : A → Bool) (q : B → Bool) → ((x : A) → IfSome (g x) (λ y. q y ≡ p x)) → (xs : List A) → filter q (filter_map g xs) ≡ filter_map g (filter p xs)
filter-filter_map g p q agree [] = refl
filter-filter_map {A} {B} g p q agree (x ∷ xs) =
    kept (g x) (p x) (agree x) (filter_map g xs) (filter p xs) refl (filter-filter_map g p q agree xs)
  where
    kept : (o : Option B) (b : Bool) → IfSome o (λ y. q y ≡ b) → (ys : List B) (zs : List A) → g x ≡ o → filter q ys ≡ filter_map g zs → filter q (cons_option o ys) ≡ filter_map g (cond b (x ∷ zs) zs)
    kept None true same ys zs is rest = rest ∙ ap (λ given. cons_option given (filter_map g zs)) (sym is)
    kept None false same ys zs is rest = rest
    kept (Some y) true same ys zs is rest =
        ap (λ b. cond b (y ∷ filter q ys) (filter q ys)) same ∙ ap (λ l. y ∷ l) rest ∙ ap (λ given. cons_option given (filter_map g zs)) (sym is)
    kept (Some y) false same ys zs is rest = ap (λ b. cond b (y ∷ filter q ys) (filter q ys)) same ∙ rest

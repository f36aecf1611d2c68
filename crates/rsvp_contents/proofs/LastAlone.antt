-- Lists of which none but the last passes a test.
use Rattle.std.proofs.Common.{◌≡◌, ◌≤◌, ◌-◌, ℕ, suc, zero, Bool, true, false, not, if◌then◌else◌, List, [], ◌∷◌, ◌++◌, length, take, refl, ap, ◌∙◌, subst, sym, arith, length-append}
use Rattle.std.specs.List.{filter, list_all, count_by}
use Rattle.std.proofs.lemmas.Bool.{and_parts, and_from, not-true}
use Rattle.std.proofs.lemmas.List.{take-append-le}
use Rattle.std.proofs.lemmas.List.Sums.{sum_by-cons}

-- what passes stands behind what fails, and is at most one
abbrev pub IsSplit : {X : Type 0} → (X → Bool) → List X → Type 0
IsSplit t xs = (filter (λ x. not (t x)) xs ++ filter t xs ≡ xs) × (count_by t xs ≤ 1)

-- a test as a number
abbrev as_number : Bool → ℕ
as_number b = if b then 1 else 0

-- one element is split
alone : {X : Type 0} (passes : Bool) (x : X) → ((if not passes then x ∷ [] else []) ++ (if passes then x ∷ [] else []) ≡ x ∷ []) × ((if passes then 1 else 0) ≤ 1)
alone true x = (refl, omega arith)
alone false x = (refl, omega arith)

-- one more that fails stands in front
one_more : {X : Type 0} (t : X → Bool) (x : X) (xs : List X) → t x ≡ false → IsSplit t xs → IsSplit t (x ∷ xs)
one_more t x xs e h = (
  ap (λ (b : Bool). (if not b then x ∷ filter (λ y. not (t y)) xs else filter (λ y. not (t y)) xs) ++ (if b then x ∷ filter t xs else filter t xs)) e
      ∙ ap (λ v. x ∷ v) h.0,
  omega (arith, sum_by-cons (λ y. if t y then 1 else 0) x xs, ap as_number e, h.1),
)

-- all but the last of at least two
all_but_last : {X : Type 0} (x y : X) (ys : List X) → take (length (x ∷ y ∷ ys) - 1) (x ∷ y ∷ ys) ≡ x ∷ take (length (y ∷ ys) - 1) (y ∷ ys)
all_but_last x y ys =
    let e : length (x ∷ y ∷ ys) - 1 ≡ suc (length (y ∷ ys) - 1) = omega arith in ap (λ (n : ℕ). take n (x ∷ y ∷ ys)) e

-- where none but the last passes, the list is split
pub split_last : {X : Type 0} (t : X → Bool) (xs : List X) → list_all (λ x. not (t x)) (take (length xs - 1) xs) ≡ true → IsSplit t xs
split_last t [] h = (refl, omega arith)
split_last t (x ∷ []) h = let one = alone (t x) x in (one.0, omega (arith, one.1))
split_last t (x ∷ y ∷ ys) h =
    let parts = and_parts (not (t x)) (list_all (λ z. not (t z)) (take (length (y ∷ ys) - 1) (y ∷ ys))) (subst (λ v. list_all (λ z. not (t z)) v ≡ true) (all_but_last x y ys) h) in
    one_more t x (y ∷ ys) (not-true (t x) parts.0) (split_last t (y ∷ ys) parts.1)

-- what all pass the first ones pass
list_all-take : {X : Type 0} (p : X → Bool) (n : ℕ) (xs : List X) → list_all p xs ≡ true → list_all p (take n xs) ≡ true
list_all-take p zero xs h = refl
list_all-take p (suc n) [] h = refl
list_all-take p (suc n) (x ∷ xs) h =
    let parts = and_parts (p x) (list_all p xs) h in and_from (p x) (list_all p (take n xs)) parts.0 (list_all-take p n xs parts.1)

-- and the other way round: at most one behind those that fail
pub last_again : {X : Type 0} (t : X → Bool) (xs ys : List X) → list_all (λ x. not (t x)) xs ≡ true → length ys ≤ 1 → list_all (λ x. not (t x)) (take (length (xs ++ ys) - 1) (xs ++ ys)) ≡ true
last_again t xs ys h one =
    let fits : length (xs ++ ys) - 1 ≤ length xs = omega (arith, length-append xs ys) in
    subst (λ v. list_all (λ x. not (t x)) v ≡ true) (sym (take-append-le (length (xs ++ ys) - 1) xs ys fits)) (list_all-take (λ x. not (t x)) (length (xs ++ ys) - 1) xs h)

-- Rows at places.
use Rattle.std.specs.Prelude.{◌≡◌, ◌+◌, ℕ, suc, zero, List, [], ◌∷◌, ◌++◌, length, slice_get, take, Option, Some}
use Rattle.std.specs.List.{AllByRecursion}
use Rattle.std.specs.Option.{option_to_list}
use Rattle.std.proofs.Common.{refl, ap, subst, ◌∙◌, add-one}

-- what holds of each holds of the one at a place
pub at_place : {X : Type 0} (P : X → Type 0) (xs : List X) (i : ℕ) (x : X) → AllByRecursion P xs → slice_get xs i ≡ Some x → P x
at_place P [] zero x each is = absurd (let e = is in cc)
at_place P [] (suc i) x each is = absurd (let e = is in cc)
at_place P (y ∷ ys) zero x each is = let same : y ≡ x = let e = is in cc in subst P same each.0
at_place P (y ∷ ys) (suc i) x each is = at_place P ys i x each.1 is

-- so many with the one at the next place
one_more : {X : Type 0} (xs : List X) (i : ℕ) → take (suc i) xs ≡ take i xs ++ option_to_list (slice_get xs i)
one_more [] zero = refl
one_more [] (suc i) = refl
one_more (x ∷ xs) zero = refl
one_more (x ∷ xs) (suc i) = ap (λ l. x ∷ l) (one_more xs i)

pub taken_more : {X : Type 0} (xs : List X) (i : ℕ) (o : Option X) → slice_get xs i ≡ o → take (i + 1) xs ≡ take i xs ++ option_to_list o
taken_more xs i o is = ap (λ n. take n xs) (add-one i) ∙ one_more xs i ∙ ap (λ o. take i xs ++ option_to_list o) is

-- nothing of no length
pub nothing : {X : Type 0} (xs : List X) → length xs ≡ 0 → xs ≡ []
nothing [] none = refl
nothing (x ∷ xs) none = absurd (let e = none in cc)

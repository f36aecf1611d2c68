-- One of many at its place, and with another one in its place.
use Rattle.std.specs.Prelude.{◌≡◌, ℕ, suc, zero, List, [], ◌∷◌, map, set, slice_get, Some}
use Rattle.std.specs.List.{AllByRecursion}
use Rattle.std.proofs.Common.{refl, ap, subst, sym, ◌∙◌}

-- what is put at a place stands there
pub got_set : {X : Type 0} (xs : List X) (i : ℕ) (x y : X) → slice_get xs i ≡ Some x → slice_get (set xs i y) i ≡ Some y
got_set [] zero x y is = absurd (let e = is in cc)
got_set [] (suc i) x y is = absurd (let e = is in cc)
got_set (z ∷ zs) zero x y is = refl
got_set (z ∷ zs) (suc i) x y is = got_set zs i x y is

-- and the others stay
pub got_other : {X : Type 0} (xs : List X) (i j : ℕ) (y : X) → (i ≡ j → ⊥) → slice_get (set xs i y) j ≡ slice_get xs j
got_other [] i j y apart = refl
got_other (z ∷ zs) zero zero y apart = absurd (apart refl)
got_other (z ∷ zs) zero (suc j) y apart = refl
got_other (z ∷ zs) (suc i) zero y apart = refl
got_other (z ∷ zs) (suc i) (suc j) y apart = got_other zs i j y (λ same. apart (ap suc same))

-- what is put at a place where the same is seen leaves what is seen of all
pub map_set : {X Y : Type 0} (f : X → Y) (xs : List X) (i : ℕ) (x y : X) → slice_get xs i ≡ Some x → f y ≡ f x → map f (set xs i y) ≡ map f xs
map_set f [] i x y is same = refl
map_set f (z ∷ zs) zero x y is same = let at : z ≡ x = let e = is in cc in λ i. (same ∙ ap f (sym at)) i ∷ map f zs
map_set f (z ∷ zs) (suc i) x y is same = ap (λ l. f z ∷ l) (map_set f zs i x y is same)

-- what holds of each holds of each with one more for which it holds
pub all_set : {X : Type 0} (P : X → Type 0) (xs : List X) (i : ℕ) (y : X) → AllByRecursion P xs → P y → AllByRecursion P (set xs i y)
all_set P [] i y each holds = each
all_set P (z ∷ zs) zero y each holds = (holds, each.1)
all_set P (z ∷ zs) (suc i) y each holds = (each.0, all_set P zs i y each.1 holds)

-- and of the one at a place
pub at_place : {X : Type 0} (P : X → Type 0) (xs : List X) (i : ℕ) (x : X) → AllByRecursion P xs → slice_get xs i ≡ Some x → P x
at_place P [] zero x each is = absurd (let e = is in cc)
at_place P [] (suc i) x each is = absurd (let e = is in cc)
at_place P (y ∷ ys) zero x each is = let same : y ≡ x = let e = is in cc in subst P same each.0
at_place P (y ∷ ys) (suc i) x each is = at_place P ys i x each.1 is

-- what is there is one
pub same_some : {X : Type 0} (x y : X) → Some x ≡ Some y → x ≡ y
same_some x y is = let e = is in cc

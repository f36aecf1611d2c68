-- A list without elements is none.
use Rattle.std.proofs.Common.{◌≡◌, List, [], ◌∷◌, length, refl}

-- A list of no length.
pub nothing : {A : Type 0} (xs : List A) → length xs ≡ 0 → xs ≡ []
nothing [] is = refl
nothing (x ∷ xs) is = absurd (let e = is in cc)

-- How many bytes the first of a list's items are written as.
use Rattle.std.proofs.Common.{◌≡◌, ◌+◌, ◌<◌, ◌≤◌, ℕ, List, length, get_or, take, ap, arith}
use Rattle.std.specs.List.{flat_map}
use Rattle.std.proofs.lemmas.List.Folds.{length-flat_map-take}

-- those of the first items and of one more are not more than those of all
pub length-one_more : {X : Type 0} (f : X → List ℕ) (xs : List X) (i : ℕ) (x : X) → i < length xs → x ≡ get_or xs i x → length (flat_map f (take i xs)) + length (f x) ≤ length (flat_map f xs)
length-one_more {X} f xs i x within is =
    let whole : length (flat_map f (take i xs)) + length (f (get_or xs i x)) ≤ length (flat_map f xs) = length-flat_map-take f xs i x within in
    let here : length (f x) ≡ length (f (get_or xs i x)) = ap (λ (v : X). length (f v)) is in
    omega arith

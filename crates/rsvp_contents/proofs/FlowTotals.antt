-- Sums over a list of objects.
use Rattle.std.proofs.Common.{◌≡◌, ◌+◌, ℕ, Bool, if◌then◌else◌, List, [], ◌∷◌, ◌++◌, length, Option, Some, None, refl, arith, length-append}
use Rattle.std.specs.List.{flat_map, count_by}
use Rattle.std.proofs.lemmas.List.Sums.{sum_by-cons}
use Rattle.rsvp_objects.specs.declared.object.Object.{Object}
use Rattle.rsvp_objects.specs.Objects.{spelling}
use Rattle.rsvp_contents.specs.Flows.{if_some}

-- the sum of a measure
abbrev pub total : (Object → ℕ) → List Object → ℕ
total w [] = 0
total w (o ∷ os) = w o + total w os

-- how many bytes an object is written in
abbrev pub size_of : Object → ℕ
size_of o = length (spelling o)

-- 1 where the test holds
abbrev pub one_if : (Object → Bool) → Object → ℕ
one_if p o = if p o then 1 else 0

-- the measure of a value, where there is one
abbrev pub if_some_of : {X : Type 0} → (Object → ℕ) → (X → Object) → Option X → ℕ
if_some_of w as_object None = 0
if_some_of w as_object (Some x) = w (as_object x)

-- the total of two lists is the sum of theirs
pub total-append : (w : Object → ℕ) (xs ys : List Object) → total w (xs ++ ys) ≡ total w xs + total w ys
total-append w [] ys = omega arith
total-append w (x ∷ xs) ys = omega (arith, total-append w xs ys)

-- an object that may be absent has the measure of its value
pub total-if_some : {X : Type 0} (w : Object → ℕ) (as_object : X → Object) (o : Option X) → total w (if_some o as_object) ≡ if_some_of w as_object o
total-if_some w as_object None = refl
total-if_some w as_object (Some x) = omega arith

-- how long objects are written
pub length-flat_map-spelling : (os : List Object) → length (flat_map spelling os) ≡ total size_of os
length-flat_map-spelling [] = refl
length-flat_map-spelling (o ∷ os) = omega (arith, length-append (spelling o) (flat_map spelling os), length-flat_map-spelling os)

-- how many pass a test
pub count-total : (p : Object → Bool) (os : List Object) → count_by p os ≡ total (one_if p) os
count-total p [] = refl
count-total p (o ∷ os) = omega (arith, sum_by-cons (λ (x : Object). if p x then 1 else 0) o os, count-total p os)

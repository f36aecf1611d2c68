-- Sums over a list of objects: any measure of what counts is at most that of all.
use Rattle.std.proofs.Common.{◌≡◌, ◌≤◌, ◌+◌, ℕ, Bool, true, false, not, if◌then◌else◌, List, [], ◌∷◌, ◌++◌, length, Option, Some, None, refl, ap, ◌∙◌, arith, length-append}
use Rattle.std.specs.Prelude.{fold, find, ◌||◌}
use Rattle.std.specs.List.{flat_map, list_any, filter}
use Rattle.rsvp_bodies.specs.Reading.{SpellsEach}
use Rattle.rsvp_objects.specs.declared.object.Object.{Object}
use Rattle.rsvp_objects.specs.Objects.{SpellsObject, spelling}
use Rattle.rsvp_contents.specs.Counting.{class_of, object_kind, has_class, repeats, counted, counting}
pub use Rattle.rsvp_contents.proofs.FlowTotals.{total, size_of, one_if, if_some_of, total-append, total-if_some, length-flat_map-spelling, count-total}
use Rattle.rsvp_objects.proofs.Sizes.{written_no_longer}

-- one more object is counted at most once
total-chosen : (w : Object → ℕ) (test : Bool) (xs : List Object) (o : Object) → total w (if test then xs ++ o ∷ [] else xs) ≤ total w xs + w o
total-chosen w true xs o = omega (arith, total-append w xs (o ∷ []))
total-chosen w false xs o = omega arith

-- and so is one that counts
total-counted : (w : Object → ℕ) (type : ℕ) (xs : List Object) (o : Object) → total w (counted type xs o) ≤ total w xs + w o
total-counted w type xs o = total-chosen w (repeats type o || not (has_class (class_of o) xs)) xs o

-- each object is counted at most once
total-fold : (w : Object → ℕ) (type : ℕ) (xs os : List Object) → total w (fold (counted type) xs os) ≤ total w xs + total w os
total-fold w type xs [] = omega arith
total-fold w type xs (o ∷ os) = omega (arith, total-fold w type (counted type xs o) os, total-counted w type xs o)

-- what counts is part of all
pub total-counting : (w : Object → ℕ) (type : ℕ) (os : List Object) → total w (counting type os) ≤ total w os
total-counting w type os = omega (arith, total-fold w type [] os)

-- objects are written in no more bytes than they were read from
pub total-spelled : (bytes : List ℕ) (os : List Object) → SpellsEach SpellsObject bytes os → total size_of os ≤ length bytes
total-spelled bytes [] s = omega arith
total-spelled bytes (o ∷ os) s =
    omega (arith, ap length s.2, length-append s.0 s.1, written_no_longer s.0 o s.3, total-spelled s.1 os s.4)

-- a test that holds of no object has the total 0
one_none : (test : Bool) (n : ℕ) → (if test then 1 else 0) + n ≡ 0 → (test ≡ false) × (n ≡ 0)
one_none true n e = absurd (omega arith)
one_none false n e = (refl, omega arith)

-- a test that measures 0 holds of none
pub list_any-from_total : (p : Object → Bool) (os : List Object) → total (one_if p) os ≡ 0 → list_any p os ≡ false
list_any-from_total p [] e = refl
list_any-from_total p (o ∷ os) e =
    let parts = one_none (p o) (total (one_if p) os) e in
    ap (λ (b : Bool). b || list_any p os) parts.0 ∙ list_any-from_total p os parts.1

-- and finds none
pub find-from_total : (p : Object → Bool) (os : List Object) → total (one_if p) os ≡ 0 → find p os ≡ None
find-from_total p [] e = refl
find-from_total p (o ∷ os) e =
    let parts = one_none (p o) (total (one_if p) os) e in
    ap (λ (b : Bool). if b then Some o else find p os) parts.0 ∙ find-from_total p os parts.1

-- one step of the next lemma
none_one : (test rest : Bool) (n : ℕ) → (test || rest) ≡ false → (rest ≡ false → n ≡ 0) → (if test then 1 else 0) + n ≡ 0
none_one true rest n e h = absurd cc
none_one false rest n e h = omega (arith, h e)

-- and the other way round
pub total-from_list_any : (p : Object → Bool) (os : List Object) → list_any p os ≡ false → total (one_if p) os ≡ 0
total-from_list_any p [] e = refl
total-from_list_any p (o ∷ os) e = none_one (p o) (list_any p os) (total (one_if p) os) e (total-from_list_any p os)

-- one step of the next lemma
total-left : (w : Object → ℕ) (test : Bool) (o : Object) (xs : List Object) → (test ≡ true → w o ≡ 0) → total w xs ≡ 0 → total w (if test then o ∷ xs else xs) ≡ 0
total-left w true o xs h e = omega (arith, h refl)
total-left w false o xs h e = e

-- what is kept has no measure where each object that passes has none
pub total-filter_none : (w : Object → ℕ) (p : Object → Bool) → ((o : Object) → p o ≡ true → w o ≡ 0) → (os : List Object) → total w (filter p os) ≡ 0
total-filter_none w p each [] = refl
total-filter_none w p each (o ∷ os) = total-left w (p o) o (filter p os) (each o) (total-filter_none w p each os)

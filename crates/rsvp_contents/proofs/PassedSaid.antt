-- What a reader passes on is such as a message passes on.
use Rattle.std.proofs.Common.{◌≡◌, ℕ, Bool, true, false, not, ◌||◌, nat_eq, if◌then◌else◌, List, [], ◌∷◌, length, map, Option, Some, None, refl, ap, ◌∙◌, arith}
use Rattle.std.specs.List.{filter, list_all, count_by}
use Rattle.std.specs.Option.{option_map_or}
use Rattle.std.proofs.lemmas.Bool.{and_from, le-leb, or_left, or_right, not_from_false}
use Rattle.std.proofs.lemmas.List.{length-map}
use Rattle.std.proofs.lemmas.List.Folds.{list_all-append}
use Rattle.std.proofs.lemmas.List.Sums.{sum_by-cons, sum_by-append}
use Rattle.rsvp_objects.specs.declared.values.FastReroute.{FastReroute}
use Rattle.rsvp_objects.specs.declared.object.Object.{Object}
use Rattle.rsvp_objects.specs.declared.object.Object.TheVariants as objects
use Rattle.rsvp_objects.specs.Raw.{Raw}
use Rattle.rsvp_objects.specs.Kinds.{kind_of}
use Rattle.rsvp_objects.specs.Objects.{raw_of}
use Rattle.rsvp_contents.specs.Counting.{passes}
use Rattle.rsvp_contents.specs.Fitting.{are_passed_by, has_adspec_last, has_one_fast_reroute}
use Rattle.rsvp_contents.specs.Picking.{passing_of}
use Rattle.rsvp_contents.specs.Values.{picked, as_fast_reroute}
use Rattle.rsvp_contents.proofs.Totals.{total, one_if, if_some_of}
use Rattle.rsvp_contents.proofs.Kept.{is_adspec, passes-is_adspec}
use Rattle.rsvp_contents.proofs.Once.{is_class, CountsOnce, IsCounting, repeats_by_class}
use Rattle.rsvp_contents.proofs.Seen.{seen_within}
use Rattle.rsvp_contents.proofs.LastAlone.{last_again}

-- one step of the next lemma
kept_step : (test : Bool) (p : Object → Bool) (t : Raw → Bool) (o : Object) (os : List Object) → (test ≡ true → t (raw_of o) ≡ true) → list_all t (map raw_of (filter p os)) ≡ true →
    list_all t (map raw_of (if test then o ∷ filter p os else filter p os)) ≡ true
kept_step true p t o os h rest = and_from (t (raw_of o)) (list_all t (map raw_of (filter p os))) (h refl) rest
kept_step false p t o os h rest = rest

-- whether a test of the bytes passes all of what passed, where it passes each
list_all-kept : (p : Object → Bool) (t : Raw → Bool) → ((o : Object) → p o ≡ true → t (raw_of o) ≡ true) → (os : List Object) → list_all t (map raw_of (filter p os)) ≡ true
list_all-kept p t each [] = refl
list_all-kept p t each (o ∷ os) = kept_step (p o) p t o os (each o) (list_all-kept p t each os)

-- what a reader passes on is passed on
pub are_passed-said : (type : ℕ) (os : List Object) → are_passed_by type (passing_of type os) ≡ true
are_passed-said type os =
    let ok : Raw → Bool = λ o. nat_eq o.class 13 || passes type (objects.Other o) in
    list_all-append ok (map raw_of (filter (passes type) os)) (map raw_of (filter is_adspec os))
    ∙ and_from _ _
    (list_all-kept (passes type) ok (λ o e. or_right (is_adspec o) (passes type (objects.Other (raw_of o))) e) os)
    (list_all-kept is_adspec ok (λ o e. or_left (is_adspec o) (passes type (objects.Other (raw_of o))) e) os)

-- one step of the next lemma
own_step : (test : Bool) (w : Object → ℕ) (o : Object) (xs : List Object) → (test ≡ true → w o ≡ 1) → total w xs ≡ length xs → total w (if test then o ∷ xs else xs) ≡ length (if test then o ∷ xs else xs)
own_step true w o xs h e = omega (arith, h refl)
own_step false w o xs h e = e

-- a test as a number
abbrev as_number : Bool → ℕ
as_number b = if b then 1 else 0

-- what passes a test is as much as measures 1 by it
total-own : (p : Object → Bool) (os : List Object) → total (one_if p) (filter p os) ≡ length (filter p os)
total-own p [] = refl
total-own p (o ∷ os) = own_step (p o) (one_if p) o (filter p os) (λ e. ap as_number e) (total-own p os)

-- the ADSPEC that a reader passes on stands last
pub has_adspec_last-said : (type : ℕ) (os : List Object) → CountsOnce type 13 → IsCounting type os → has_adspec_last (passing_of type os) ≡ true
unfolding kind_of
has_adspec_last-said type os alone once =
    let one = once 13 alone in
    last_again (λ (o : Raw). nat_eq o.class 13) (map raw_of (filter (passes type) os)) (map raw_of (filter is_adspec os))
    (list_all-kept (passes type) (λ o. not (nat_eq o.class 13)) (λ o e. not_from_false (is_adspec o) (passes-is_adspec type o e)) os)
    (omega (arith, one, length-map (filter is_adspec os) raw_of, total-own is_adspec os, seen_within (one_if (is_class 13)) type os))

-- how many objects of class 205 there are is seen from their bytes
count-kept : (os : List Object) → count_by (λ o. nat_eq o.class 205) (map raw_of os) ≡ total (one_if (is_class 205)) os
count-kept [] = refl
count-kept (o ∷ os) = omega (arith, sum_by-cons (λ (x : Raw). if nat_eq x.class 205 then 1 else 0) (raw_of o) (map raw_of os), count-kept os)

-- a FAST_REROUTE measures 1 by its class
own_fast : (own : Option FastReroute) → option_map_or (λ _. 1) own 0 ≡ if_some_of (one_if (is_class 205)) objects.FastReroute own
own_fast None = refl
own_fast (Some f) = refl

-- of FAST_REROUTE one is said, or passed on
pub has_one_fast_reroute-said : (os : List Object) → IsCounting 1 os → has_one_fast_reroute (picked as_fast_reroute os) (passing_of 1 os) ≡ true
unfolding kind_of
has_one_fast_reroute-said os once =
    let one = once 205 (λ ctype. repeats_by_class 1 205 ctype 1) in
    le-leb _ 1
    (omega (arith, one, own_fast (picked as_fast_reroute os), sum_by-append (λ (x : Raw). if nat_eq x.class 205 then 1 else 0) (map raw_of (filter (passes 1) os)) (map raw_of (filter is_adspec os)), count-kept (filter (passes 1) os), count-kept (filter is_adspec os), seen_within (one_if (is_class 205)) 1 os))

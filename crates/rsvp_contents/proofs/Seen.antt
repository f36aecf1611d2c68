-- What the look-ups of a message see are different objects: together they measure at most all objects.
use Rattle.std.proofs.Common.{◌≡◌, ◌≤◌, ◌+◌, ℕ, Bool, true, false, if◌then◌else◌, List, [], ◌∷◌, refl, arith}
use Rattle.std.specs.List.{filter}
use Rattle.rsvp_objects.specs.declared.object.Object.{Object}
use Rattle.rsvp_objects.specs.declared.object.Object.TheVariants as objects
use Rattle.rsvp_objects.specs.Kinds.{kind_of}
use Rattle.rsvp_contents.specs.Flows.{is_flow}
use Rattle.rsvp_contents.specs.Counting.{passes}
use Rattle.rsvp_contents.specs.Values.{picked, as_session, as_hop, as_time, as_error, as_style, as_sender, as_tspec, as_label_request, as_route, as_own_record, as_attr, as_fast_reroute}
use Rattle.rsvp_contents.proofs.Totals.{total, if_some_of}
use Rattle.rsvp_contents.proofs.Kept.{is_adspec, attr_passes, passes-is_adspec, fails_not}

-- the measure of the value of each class, where there is one
abbrev pub seen_values : (Object → ℕ) → List Object → ℕ
seen_values w os =
    if_some_of w objects.Session (picked as_session os)
    + (if_some_of w objects.Hop (picked as_hop os)
    + (if_some_of w objects.TimeValues (picked as_time os)
    + (if_some_of w objects.ErrorSpec (picked as_error os)
    + (if_some_of w objects.Style (picked as_style os)
    + (if_some_of w objects.SenderTemplate (picked as_sender os)
    + (if_some_of w objects.SenderTspec (picked as_tspec os)
    + (if_some_of w objects.LabelRequest (picked as_label_request os)
    + (if_some_of w objects.ExplicitRoute (picked as_route os)
    + (if_some_of w objects.SessionAttribute (picked as_attr os)
    + if_some_of w objects.FastReroute (picked as_fast_reroute os))))))))))

-- and of what is passed on, and of flow descriptors
abbrev pub seen : (Object → ℕ) → ℕ → List Object → ℕ
seen w type os = seen_values w os + (total w (filter (passes type) os) + (total w (filter is_adspec os) + total w (filter is_flow os)))

-- a record is one of flow descriptors, or stands for one
pub record_seen : (w : Object → ℕ) (os : List Object) → if_some_of w objects.RecordRoute (picked (as_own_record false) os) ≤ total w (filter is_flow os)
record_seen w [] = omega arith
record_seen w (objects.RecordRoute r ∷ os) = omega arith
record_seen w (objects.Flowspec f ∷ os) = omega (arith, record_seen w os)
record_seen w (objects.FilterSpec t ∷ os) = omega (arith, record_seen w os)
record_seen w (objects.Label l ∷ os) = omega (arith, record_seen w os)
record_seen w (o ∷ os) = record_seen w os

-- an object is passed on once
once : (w : Object → ℕ) (passes is_adspec : Bool) (o : Object) (xs ys : List Object) → (passes ≡ true → is_adspec ≡ false) →
    total w (if passes then o ∷ xs else xs) + total w (if is_adspec then o ∷ ys else ys) ≤ w o + (total w xs + total w ys)
once w true true o xs ys h = fails_not true (h refl) refl
once w true false o xs ys h = omega arith
once w false true o xs ys h = omega arith
once w false false o xs ys h = omega arith

-- an object with a value is not passed on
not_passed : (w : Object → ℕ) (passes : Bool) (o : Object) (xs : List Object) → passes ≡ false → total w (if passes then o ∷ xs else xs) ≡ total w xs
not_passed w true o xs h = fails_not true h refl
not_passed w false o xs h = refl

-- each object is seen at most once
pub seen_within : (w : Object → ℕ) (type : ℕ) (os : List Object) → seen w type os ≤ total w os
unfolding kind_of
seen_within w type [] = omega arith
seen_within w type (objects.Session x ∷ os) = omega (arith, seen_within w type os)
seen_within w type (objects.Hop x ∷ os) = omega (arith, seen_within w type os)
seen_within w type (objects.TimeValues x ∷ os) = omega (arith, seen_within w type os)
seen_within w type (objects.ErrorSpec x ∷ os) = omega (arith, seen_within w type os)
seen_within w type (objects.Style x ∷ os) = omega (arith, seen_within w type os)
seen_within w type (objects.Flowspec x ∷ os) = omega (arith, seen_within w type os)
seen_within w type (objects.FilterSpec x ∷ os) = omega (arith, seen_within w type os)
seen_within w type (objects.SenderTemplate x ∷ os) = omega (arith, seen_within w type os)
seen_within w type (objects.SenderTspec x ∷ os) = omega (arith, seen_within w type os)
seen_within w type (objects.Label x ∷ os) = omega (arith, seen_within w type os)
seen_within w type (objects.LabelRequest x ∷ os) = omega (arith, seen_within w type os)
seen_within w type (objects.ExplicitRoute x ∷ os) = omega (arith, seen_within w type os)
seen_within w type (objects.RecordRoute x ∷ os) = omega (arith, seen_within w type os)
seen_within w type (objects.FastReroute x ∷ os) = omega (arith, seen_within w type os)
seen_within w type (objects.SessionAttribute x ∷ os) =
    omega (arith, seen_within w type os, not_passed w (passes type (objects.SessionAttribute x)) (objects.SessionAttribute x) (filter (passes type) os) (attr_passes type x.affinities))
seen_within w type (objects.Other raw ∷ os) =
    omega (arith, seen_within w type os, once w (passes type (objects.Other raw)) (is_adspec (objects.Other raw)) (objects.Other raw) (filter (passes type) os) (filter is_adspec os) (passes-is_adspec type (objects.Other raw)))

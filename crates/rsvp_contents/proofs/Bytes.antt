-- How many bytes content is written in: the sum of its parts, and where these are short.
use Rattle.std.proofs.Common.{◌≡◌, ◌≤◌, ◌<◌, ◌+◌, ◌-◌, ◌*◌, ℕ, Bool, true, false, not, nat_eq, nat_le, if◌then◌else◌, List, [], ◌∷◌, map, length, Option, Some, None, refl, sym, ◌∙◌, arith, inl, inr}
use Rattle.std.specs.Prelude.{sum_by}
use Rattle.std.specs.List.{filter, flat_map}
use Rattle.std.specs.Option.{option_map_or}
use Rattle.std.proofs.lemmas.Bool.{and_parts, cases_Bool, false_from_ne_true, le-leb, leb-true}
use Rattle.std.proofs.lemmas.List.Sums.{sum_by-cons}
use Rattle.rsvp_objects.specs.Below.bodies.declared.step.Step.{Step}
use Rattle.rsvp_objects.specs.Below.bodies.declared.trace.Trace.{Trace}
use Rattle.rsvp_objects.specs.declared.object.Object.{Object}
use Rattle.rsvp_objects.specs.declared.object.Object.TheVariants as objects
use Rattle.rsvp_objects.specs.Raw.{Raw}
use Rattle.rsvp_objects.specs.Objects.{spelling}
use Rattle.rsvp_contents.specs.Flows.{flow_objects}
use Rattle.rsvp_contents.specs.declared.messages.Path.{Path}
use Rattle.rsvp_contents.specs.declared.messages.Resv.{Resv}
use Rattle.rsvp_contents.specs.declared.messages.Content.TheVariants as contents
use Rattle.rsvp_objects.specs.Below.bodies.Steps.{route_bytes}
use Rattle.rsvp_contents.specs.Limits.{is_short_route, is_short_record, is_short_passing}
use Rattle.rsvp_contents.specs.Fitting.{written_len}
use Rattle.rsvp_contents.specs.Written.{if_some, before_sender, adspec, path_objects, resv_objects}
use Rattle.rsvp_contents.proofs.Totals.{total, size_of, if_some_of, total-append, total-if_some, length-flat_map-spelling}
use Rattle.rsvp_contents.proofs.Kept.{fails_not}
use Rattle.rsvp_contents.proofs.Listed.{total-path_list}

-- an object that is passed on stands before the sender or behind it
one_place : (behind : Bool) (o : Raw) (xs ys : List Raw) →
    total size_of (map objects.Other (if not behind then o ∷ xs else xs)) + total size_of (map objects.Other (if behind then o ∷ ys else ys))
    ≡ length o.body + 4 + (total size_of (map objects.Other xs) + total size_of (map objects.Other ys))
one_place true o xs ys = omega arith
one_place false o xs ys = omega arith

-- so that what is passed on is written once
pub total-passing : (os : List Raw) → total size_of (before_sender os) + total size_of (adspec os) ≡ sum_by (λ o. length o.body + 4) os
total-passing [] = refl
total-passing (o ∷ os) =
    omega (arith, one_place (nat_eq o.class 13) o (filter (λ x. not (nat_eq x.class 13)) os) (filter (λ x. nat_eq x.class 13) os), total-passing os, sum_by-cons (λ (x : Raw). length x.body + 4) o os)

-- a part that may be absent is written in its size
pub total-part : {X : Type 0} (as_object : X → Object) (o : Option X) → length (flat_map spelling (if_some o as_object)) ≡ if_some_of size_of as_object o
total-part as_object o = length-flat_map-spelling (if_some o as_object) ∙ total-if_some size_of as_object o

-- the bytes of a Path are those of its parts
pub path_written : (p : Path) →
    written_len (contents.Path p)
    ≡ 8 + (size_of (objects.Session p.session)
    + (size_of (objects.Hop p.hop)
    + (8
    + (length (flat_map spelling (if_some p.route objects.ExplicitRoute))
    + (8
    + (length (flat_map spelling (if_some p.attr objects.SessionAttribute))
    + (length (flat_map spelling (if_some p.fast_reroute objects.FastReroute))
    + (sum_by (λ o. length o.body + 4) p.passing
    + (size_of (objects.SenderTemplate p.sender)
    + (size_of (objects.SenderTspec p.tspec) + length (flat_map spelling (if_some p.recorded objects.RecordRoute))))))))))))
path_written p =
    let all = length-flat_map-spelling (path_objects p) in
    let sum = total-path_list size_of p (before_sender p.passing) (adspec p.passing) in
    let route = total-part objects.ExplicitRoute p.route in
    let attr = total-part objects.SessionAttribute p.attr in
    let fast = total-part objects.FastReroute p.fast_reroute in
    let recorded = total-part objects.RecordRoute p.recorded in
    omega (arith, all, sum, route, attr, fast, recorded, total-passing p.passing)

-- a short route
pub route_most : (o : Option (List Step)) → option_map_or is_short_route o true ≡ true → length (flat_map spelling (if_some o objects.ExplicitRoute)) ≤ 516
route_most None h = omega arith
route_most (Some route) h =
    let parts = and_parts (nat_le (length route) 32) _ h in
    let size = and_parts (nat_le (length (route_bytes route)) 512) _ parts.1 in
    omega (arith, total-part objects.ExplicitRoute (Some route), leb-true _ 512 size.0)

-- a short record
pub record_most : (o : Option (List Trace)) → option_map_or is_short_record o true ≡ true → length (flat_map spelling (if_some o objects.RecordRoute)) ≤ 1028
record_most None h = omega arith
record_most (Some entries) h =
    let parts = and_parts (nat_le (length entries) 64) _ h in
    omega (arith, total-part objects.RecordRoute (Some entries), leb-true _ 1024 parts.1)

-- a header for each body
sum_by-headers : (os : List Raw) → sum_by (λ o. length o.body + 4) os ≡ sum_by (λ o. length o.body) os + 4 * length os
sum_by-headers [] = refl
sum_by-headers (o ∷ os) =
    omega (arith, sum_by-headers os, sum_by-cons (λ (x : Raw). length x.body + 4) o os, sum_by-cons (λ (x : Raw). length x.body) o os)

-- what is passed on, within its limits
pub record PassingMost (os : List Raw) : Type 0 where
  pub count : length os ≤ 8
  pub size : sum_by (λ o. length o.body + 4) os ≤ 2080

pub passing_most : (os : List Raw) → is_short_passing os ≡ true → PassingMost os
passing_most os h =
    let a = and_parts (nat_le (length os) 8) _ h in
    let b = and_parts _ (nat_le (sum_by (λ (o : Raw). length o.body) os) 2048) a.1 in
    let count = leb-true (length os) 8 a.0 in
    record { count = count; size = omega (arith, sum_by-headers os, leb-true _ 2048 b.1) }

-- all that is passed on is written once
total-others : (os : List Raw) → total size_of (map objects.Other os) ≡ sum_by (λ o. length o.body + 4) os
total-others [] = refl
total-others (o ∷ os) = omega (arith, total-others os, sum_by-cons (λ (x : Raw). length x.body + 4) o os)

-- the bytes of a Resv are those of its parts
pub resv_written : (r : Resv) →
    written_len (contents.Resv r)
    ≡ 8 + (size_of (objects.Session r.session) + (size_of (objects.Hop r.hop) + (8 + (sum_by (λ o. length o.body + 4) r.passing + (8 + length (flat_map spelling (flow_objects None r.descriptors)))))))
resv_written r =
    omega (
      arith,
      length-flat_map-spelling (resv_objects r),
      length-flat_map-spelling (flow_objects None r.descriptors),
      total-append size_of (map objects.Other r.passing) (objects.Style r.style ∷ flow_objects None r.descriptors),
      total-others r.passing,
    )

-- whether what follows a head fits is whether both do
pub room_left : (head tail all : ℕ) → all ≡ head + tail → head ≤ 4096 → nat_le tail (4096 - head) ≡ nat_le all 4096
room_left head tail all e within =
    elim (cases_Bool (nat_le all 4096)) [
      | inl fits ↦ le-leb tail (4096 - head) (omega (arith, leb-true all 4096 fits)) ∙ sym fits
      | inr no_room ↦
          false_from_ne_true (nat_le tail (4096 - head)) (λ is. fails_not (nat_le all 4096) no_room (le-leb all 4096 (omega (arith, leb-true tail (4096 - head) is)))) ∙ sym no_room
    ]

pub no_room_left : (head tail all : ℕ) → all ≡ head + tail → 4096 < head → nat_le head 4096 ≡ nat_le all 4096
no_room_left head tail all e over =
    false_from_ne_true (nat_le head 4096) (λ is. absurd (omega (arith, leb-true head 4096 is)))
    ∙ sym (false_from_ne_true (nat_le all 4096) (λ is. absurd (omega (arith, leb-true all 4096 is))))

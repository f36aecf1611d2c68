-- The objects of a Path, part by part, where what is passed on is what passed among some objects.
use Rattle.std.proofs.Common.{◌≡◌, ◌+◌, ℕ, Bool, not, nat_eq, List, [], ◌∷◌, ◌++◌, map, refl, ap, ap₂, ◌∙◌, arith, append-nil}
use Rattle.std.specs.List.{filter}
use Rattle.std.proofs.lemmas.Bool.{not_from_true, not_from_false}
use Rattle.std.proofs.lemmas.List.{map-append}
use Rattle.std.proofs.lemmas.List.Elements.{filter-append}
use Rattle.rsvp_objects.specs.declared.object.Object.{Object}
use Rattle.rsvp_objects.specs.declared.object.Object.TheVariants as objects
use Rattle.rsvp_objects.specs.Raw.{Raw}
use Rattle.rsvp_objects.specs.Kinds.{kind_of}
use Rattle.rsvp_objects.specs.Objects.{raw_of}
use Rattle.rsvp_contents.specs.declared.messages.Path.{Path}
use Rattle.rsvp_contents.specs.Counting.{passes}
use Rattle.rsvp_contents.specs.Picking.{passing_of}
use Rattle.rsvp_contents.specs.Written.{if_some, before_sender, adspec, path_objects}
use Rattle.rsvp_contents.proofs.Totals.{total, if_some_of, total-append, total-if_some}
use Rattle.rsvp_contents.proofs.Kept.{is_adspec, attr_passes, filter_again, filter_gone, filter_skip, filter_none, other_again, other_gone, passes-IsKept, is_adspec-IsKept, is_adspec-passes, passes-is_adspec}

-- a Path's objects from each part on: `front` stands before the sender, and `back` behind it
abbrev pub from_back : Path → List Object → List Object
from_back p back = back ++ if_some p.recorded objects.RecordRoute

-- from the sender on
abbrev pub from_sender : Path → List Object → List Object
from_sender p back = (objects.SenderTemplate p.sender ∷ objects.SenderTspec p.tspec ∷ []) ++ from_back p back

-- from what stands before the sender on
abbrev pub from_front : Path → List Object → List Object → List Object
from_front p front back = front ++ from_sender p back

-- from FAST_REROUTE on
abbrev pub from_fast : Path → List Object → List Object → List Object
from_fast p front back = if_some p.fast_reroute objects.FastReroute ++ from_front p front back

-- from SESSION_ATTRIBUTE on
abbrev pub from_attr : Path → List Object → List Object → List Object
from_attr p front back = if_some p.attr objects.SessionAttribute ++ from_fast p front back

-- from LABEL_REQUEST on
abbrev pub from_label : Path → List Object → List Object → List Object
from_label p front back = (objects.LabelRequest p.label_request ∷ []) ++ from_attr p front back

-- from EXPLICIT_ROUTE on
abbrev pub from_route : Path → List Object → List Object → List Object
from_route p front back = if_some p.route objects.ExplicitRoute ++ from_label p front back

-- and all of them
abbrev pub path_list : Path → List Object → List Object → List Object
path_list p front back = (objects.Session p.session ∷ objects.Hop p.hop ∷ objects.TimeValues p.time ∷ []) ++ from_route p front back

-- what is given back of two lists is what is given back of each
given_back : (t : Raw → Bool) (xs ys : List Raw) → map objects.Other (filter t (xs ++ ys)) ≡ map objects.Other (filter t xs) ++ map objects.Other (filter t ys)
given_back t xs ys = ap (λ (v : List Raw). map objects.Other v) (filter-append t xs ys) ∙ map-append objects.Other (filter t xs) (filter t ys)

-- what stands before the sender is what passed
pub front_again : (os : List Object) → before_sender (passing_of 1 os) ≡ filter (passes 1) os
front_again os =
    given_back (λ o. not (nat_eq o.class 13)) (map raw_of (filter (passes 1) os)) (map raw_of (filter is_adspec os))
    ∙ ap₂ (λ (xs ys : List Object). xs ++ ys)
    (other_again (passes 1) (λ o. not (nat_eq o.class 13)) (λ o e. not_from_false (is_adspec o) (passes-is_adspec 1 o e)) (passes-IsKept 1) os)
    (ap (λ (v : List Raw). map objects.Other v) (other_gone is_adspec (λ o. not (nat_eq o.class 13)) (λ o e. not_from_true (is_adspec o) e) os))
    ∙ append-nil (filter (passes 1) os)

-- what stands behind it is the ADSPEC
pub back_again : (os : List Object) → adspec (passing_of 1 os) ≡ filter is_adspec os
back_again os =
    given_back (λ o. nat_eq o.class 13) (map raw_of (filter (passes 1) os)) (map raw_of (filter is_adspec os))
    ∙ ap₂ (λ (xs ys : List Object). xs ++ ys)
    (ap (λ (v : List Raw). map objects.Other v) (other_gone (passes 1) (λ o. nat_eq o.class 13) (passes-is_adspec 1) os))
    (other_again is_adspec (λ o. nat_eq o.class 13) (λ o e. e) is_adspec-IsKept os)

-- what a Path's objects measure
abbrev pub path_total : (Object → ℕ) → Path → List Object → List Object → ℕ
path_total w p front back =
    w (objects.Session p.session)
    + (w (objects.Hop p.hop)
    + (w (objects.TimeValues p.time)
    + (if_some_of w objects.ExplicitRoute p.route
    + (w (objects.LabelRequest p.label_request)
    + (if_some_of w objects.SessionAttribute p.attr
    + (if_some_of w objects.FastReroute p.fast_reroute
    + (total w front
    + (w (objects.SenderTemplate p.sender)
    + (w (objects.SenderTspec p.tspec)
    + (total w back
    + if_some_of w objects.RecordRoute p.recorded))))))))))

-- it is the sum of the measures of the parts
pub total-path_list : (w : Object → ℕ) (p : Path) (front back : List Object) → total w (path_list p front back) ≡ path_total w p front back
total-path_list w p front back =
    let route = total-append w (if_some p.route objects.ExplicitRoute) (from_label p front back) in
    let attr = total-append w (if_some p.attr objects.SessionAttribute) (from_fast p front back) in
    let fast = total-append w (if_some p.fast_reroute objects.FastReroute) (from_front p front back) in
    let before = total-append w front (from_sender p back) in
    let behind = total-append w back (if_some p.recorded objects.RecordRoute) in
    let has_route = total-if_some w objects.ExplicitRoute p.route in
    let has_attr = total-if_some w objects.SessionAttribute p.attr in
    let has_fast = total-if_some w objects.FastReroute p.fast_reroute in
    let has_recorded = total-if_some w objects.RecordRoute p.recorded in
    omega arith

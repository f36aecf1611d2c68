-- The objects of a message, part by part: no class counts twice, nothing is refused, each value is found.
use Rattle.std.proofs.Common.{◌≡◌, ◌≤◌, ◌+◌, ℕ, Bool, true, false, not, ◌&&◌, ◌||◌, ◌==◌, nat_eq, if◌then◌else◌, List, [], ◌∷◌, ◌++◌, map, Option, Some, None, refl, sym, ap, ◌∙◌, subst, arith, inl, inr}
use Rattle.std.specs.List.{list_all, list_any, filter}
use Rattle.std.specs.Option.{option_map_or}
use Rattle.std.proofs.lemmas.Bool.{and_parts, and_from, eqb-true, eq-eqb, cases_Bool, cond-true, false≢true}
use Rattle.rsvp_objects.specs.Below.bodies.declared.affinities.Affinities.{Affinities}
use Rattle.rsvp_objects.specs.declared.object.Object.{Object}
use Rattle.rsvp_objects.specs.declared.object.Object.TheVariants as objects
use Rattle.rsvp_objects.specs.Raw.{Raw}
use Rattle.rsvp_objects.specs.Kinds.{kind_of}
use Rattle.rsvp_objects.specs.Objects.{raw_of}
use Rattle.rsvp_contents.specs.Flows.{if_some, is_flow}
use Rattle.rsvp_contents.specs.declared.parts.Parts.{Parts}
use Rattle.rsvp_contents.specs.Counting.{class_of, has_style, is_flow_class, refuses_as, refuses}
use Rattle.rsvp_contents.specs.Picking.{parts_in}
use Rattle.rsvp_contents.specs.Values.{picked, as_session, as_hop, as_time, as_error, as_style, as_sender, as_tspec, as_label_request, as_route, as_own_record, as_attr, as_fast_reroute}
use Rattle.rsvp_contents.proofs.Totals.{total, one_if, total-append}
use Rattle.rsvp_contents.proofs.Once.{is_class, repeats_at, CountsOnce, IsCounting}

-- a test as a number
abbrev pub as_number : Bool → ℕ
as_number b = if b then 1 else 0

-- how many of the numbers are this one
abbrev pub how_many : ℕ → List ℕ → ℕ
how_many n [] = 0
how_many n (m ∷ ms) = (if nat_eq m n then 1 else 0) + how_many n ms

-- no number is there twice
abbrev pub are_distinct : List ℕ → Bool
are_distinct [] = true
are_distinct (m ∷ ms) = nat_eq (how_many m ms) 0 && are_distinct ms

-- one number before others
one_of_distinct : (same : Bool) (n m : ℕ) (ms : List ℕ) → nat_eq m n ≡ same → how_many m ms ≡ 0 → how_many n ms ≤ 1 → (if same then 1 else 0) + how_many n ms ≤ 1
one_of_distinct true n m ms e none h = let is = subst (λ (v : ℕ). how_many v ms ≡ 0) (eqb-true m n e) none in omega (arith, is)
one_of_distinct false n m ms e none h = omega (arith, h)

distinct_once : (n : ℕ) (ms : List ℕ) → are_distinct ms ≡ true → how_many n ms ≤ 1
distinct_once n [] h = omega arith
distinct_once n (m ∷ ms) h =
    let parts = and_parts (nat_eq (how_many m ms) 0) (are_distinct ms) h in
    one_of_distinct (nat_eq m n) n m ms refl (eqb-true (how_many m ms) 0 parts.0) (distinct_once n ms parts.1)

-- Of the classes of which one object counts, the objects have each of these once at most, and no other.
pub record Within (type : ℕ) (classes : List ℕ) (os : List Object) : Type 0 where
  pub once : (class : ℕ) → CountsOnce type class → total (one_if (is_class class)) os ≤ how_many class classes

-- so that where these are distinct no class counts twice
pub counting_once : (type : ℕ) (classes : List ℕ) (os : List Object) → are_distinct classes ≡ true → Within type classes os → IsCounting type os
counting_once type classes os distinct h class alone = omega (arith, h.once class alone, distinct_once class classes distinct)

pub within_none : (type : ℕ) → Within type [] []
within_none type = record { once = λ class alone. omega arith }

pub within_one : (type : ℕ) (o : Object) (classes : List ℕ) (os : List Object) → Within type classes os → Within type (class_of o ∷ classes) (o ∷ os)
within_one type o classes os h = record { once = λ class alone. omega (arith, h.once class alone) }

pub within_some : {X : Type 0} (type : ℕ) (as_object : X → Object) (n : ℕ) → ((x : X) → class_of (as_object x) ≡ n) → (o : Option X) (classes : List ℕ) (os : List Object) → Within type classes os → Within type (n ∷ classes) (if_some o as_object ++ os)
within_some type as_object n each None classes os h = record { once = λ class alone. omega (arith, h.once class alone) }
within_some type as_object n each (Some x) classes os h =
    record { once = λ class alone. omega (arith, h.once class alone, ap (λ (m : ℕ). as_number (nat_eq m class)) (each x)) }

pub within_row : (type : ℕ) (n : ℕ) (row : List Object) (classes : List ℕ) (os : List Object) → ((class : ℕ) → CountsOnce type class → total (one_if (is_class class)) row ≤ (if nat_eq n class then 1 else 0)) → Within type classes os → Within type (n ∷ classes) (row ++ os)
within_row type n row classes os row_once h =
    record { once = λ class alone. omega (arith, row_once class alone, h.once class alone, total-append (one_if (is_class class)) row os) }

pub within_rows : (type : ℕ) (n : ℕ) (first second : List Object) (classes : List ℕ) (os : List Object) → ((class : ℕ) → CountsOnce type class → total (one_if (is_class class)) (first ++ second) ≤ (if nat_eq n class then 1 else 0)) → Within type classes os → Within type (n ∷ classes) (first ++ (second ++ os))
within_rows type n first second classes os rows_once h =
    record {
      once = λ class alone.
          omega (
            arith,
            rows_once class alone,
            h.once class alone,
            total-append (one_if (is_class class)) first second,
            total-append (one_if (is_class class)) first (second ++ os),
            total-append (one_if (is_class class)) second os,
          );
    }

pub within_last : {X : Type 0} (type : ℕ) (as_object : X → Object) (n : ℕ) → ((x : X) → class_of (as_object x) ≡ n) → (o : Option X) → Within type (n ∷ []) (if_some o as_object)
within_last type as_object n each None = record { once = λ class alone. omega arith }
within_last type as_object n each (Some x) = record { once = λ class alone. omega (arith, ap (λ (m : ℕ). as_number (nat_eq m class)) (each x)) }

-- a class of which one counts is none of flow descriptors, where the type has these
or_second : (a b : Bool) → (a || b) ≡ false → b ≡ false
or_second true b e = absurd cc
or_second false b e = e

no_flow_class : (type class : ℕ) → has_style type ≡ true → CountsOnce type class → is_flow_class class ≡ false
no_flow_class type class styled alone =
    let e = alone 0 in
    let both = or_second _ (has_style type && is_flow_class class) e in
    subst (λ (b : Bool). (b && is_flow_class class) ≡ false) styled both

-- so that no object of theirs is of it
flow_class : (n class : ℕ) → is_flow_class n ≡ true → is_flow_class class ≡ false → as_number (nat_eq n class) ≡ 0
flow_class n class e h =
    elim (cases_Bool (nat_eq n class)) [
      | inl same ↦ absurd (false≢true (sym h ∙ (ap is_flow_class (sym (eqb-true n class same)) ∙ e)))
      | inr other ↦ ap as_number other
    ]

flow_free : (class : ℕ) (row : List Object) → is_flow_class class ≡ false → list_all is_flow row ≡ true → total (one_if (is_class class)) row ≡ 0
flow_free class [] none h = refl
flow_free class (objects.Flowspec f ∷ row) none h = omega (arith, flow_free class row none h, flow_class 9 class refl none)
flow_free class (objects.FilterSpec t ∷ row) none h = omega (arith, flow_free class row none h, flow_class 10 class refl none)
flow_free class (objects.Label l ∷ row) none h = omega (arith, flow_free class row none h, flow_class 16 class refl none)
flow_free class (objects.RecordRoute r ∷ row) none h = omega (arith, flow_free class row none h, flow_class 21 class refl none)
flow_free class (o ∷ row) none h = absurd (false≢true h)

pub within_flows : (type : ℕ) (row : List Object) → has_style type ≡ true → list_all is_flow row ≡ true → Within type [] row
within_flows type row styled h = record { once = λ class alone. omega (arith, flow_free class row (no_flow_class type class styled alone) h) }

-- The object is no INTEGRITY, class 4, and makes no message of this type unknown.
abbrev pub is_plain : ℕ → Object → Bool
is_plain type o = not (nat_eq (class_of o) 4) && not (refuses type o)

pub plain_some : {X : Type 0} (type : ℕ) (as_object : X → Object) → ((x : X) → is_plain type (as_object x) ≡ true) → (o : Option X) (os : List Object) → list_all (is_plain type) os ≡ true → list_all (is_plain type) (if_some o as_object ++ os) ≡ true
plain_some type as_object each None os h = h
plain_some type as_object each (Some x) os h = and_from (is_plain type (as_object x)) (list_all (is_plain type) os) (each x) h

pub plain_last : {X : Type 0} (type : ℕ) (as_object : X → Object) → ((x : X) → is_plain type (as_object x) ≡ true) → (o : Option X) → list_all (is_plain type) (if_some o as_object) ≡ true
plain_last type as_object each None = refl
plain_last type as_object each (Some x) = and_from (is_plain type (as_object x)) true (each x) refl

pub plain_append : (type : ℕ) (xs ys : List Object) → list_all (is_plain type) xs ≡ true → list_all (is_plain type) ys ≡ true → list_all (is_plain type) (xs ++ ys) ≡ true
plain_append type [] ys h k = k
plain_append type (x ∷ xs) ys h k =
    let parts = and_parts (is_plain type x) (list_all (is_plain type) xs) h in
    and_from (is_plain type x) (list_all (is_plain type) (xs ++ ys)) parts.0 (plain_append type xs ys parts.1 k)

pub plain_flows : (type : ℕ) (row : List Object) → list_all is_flow row ≡ true → list_all (is_plain type) row ≡ true
unfolding kind_of
plain_flows type [] h = refl
plain_flows type (objects.Flowspec f ∷ row) h = plain_flows type row h
plain_flows type (objects.FilterSpec t ∷ row) h = plain_flows type row h
plain_flows type (objects.Label l ∷ row) h = plain_flows type row h
plain_flows type (objects.RecordRoute r ∷ row) h = plain_flows type row h
plain_flows type (o ∷ row) h = absurd (false≢true h)

-- attributes are plain
pub plain_attr : (type : ℕ) (affinities : Option Affinities) → refuses_as type (kind_of 207 (option_map_or (λ _. 1) affinities 7)) 207 ≡ false
unfolding kind_of
plain_attr type None = refl
plain_attr type (Some a) = refl

-- the values of objects, where the type has flow descriptors or none
abbrev parts_by : Bool → List Object → Parts
parts_by styled os =
    record {
      session = picked as_session os;
      hop = picked as_hop os;
      time = picked as_time os;
      error = picked as_error os;
      style = picked as_style os;
      sender = picked as_sender os;
      tspec = picked as_tspec os;
      label_request = picked as_label_request os;
      route = picked as_route os;
      recorded = picked (as_own_record styled) os;
      attr = picked as_attr os;
      fast_reroute = picked as_fast_reroute os;
    }

-- flow descriptors say no other value
flows_by : (row : List Object) → list_all is_flow row ≡ true → parts_by true row ≡ parts_by true []
flows_by [] h = refl
flows_by (objects.Flowspec f ∷ row) h = flows_by row h
flows_by (objects.FilterSpec t ∷ row) h = flows_by row h
flows_by (objects.Label l ∷ row) h = flows_by row h
flows_by (objects.RecordRoute r ∷ row) h = flows_by row h
flows_by (o ∷ row) h = absurd (false≢true h)

pub parts_flows : (type : ℕ) (row : List Object) → has_style type ≡ true → list_all is_flow row ≡ true → parts_in type row ≡ parts_in type []
parts_flows type row styled h = subst (λ (b : Bool). parts_by b row ≡ parts_by b []) (sym styled) (flows_by row h)

-- nor does what is kept unread
kept_by : (styled : Bool) (rs : List Raw) (os : List Object) → parts_by styled (map objects.Other rs ++ os) ≡ parts_by styled os
kept_by true [] os = refl
kept_by true (r ∷ rs) os = kept_by true rs os
kept_by false [] os = refl
kept_by false (r ∷ rs) os = kept_by false rs os

pub parts_kept : (type : ℕ) (rs : List Raw) (os : List Object) → parts_in type (map objects.Other rs ++ os) ≡ parts_in type os
parts_kept type rs os = kept_by (has_style type) rs os

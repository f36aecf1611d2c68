-- What a message passes on: what that is among its objects.
use Rattle.std.proofs.Common.{◌≡◌, ◌≤◌, ◌+◌, ℕ, Bool, true, false, not, ◌&&◌, ◌||◌, ◌==◌, nat_eq, if◌then◌else◌, List, [], ◌∷◌, ◌++◌, map, Option, Some, None, refl, sym, ap, ◌∙◌, subst, arith, inl, inr}
use Rattle.std.specs.List.{filter, list_all, list_any, count_by}
use Rattle.std.specs.Option.{option_map_or}
use Rattle.std.proofs.lemmas.Bool.{and_parts, and_from, eqb-true, eq-eqb, leb-true, cases_Bool, not-true, not_from_false, false≢true}
use Rattle.std.proofs.lemmas.List.{map-append}
use Rattle.std.proofs.lemmas.List.Sums.{sum_by-cons}
use Rattle.rsvp_objects.specs.declared.kind.Kind.{Kind}
use Rattle.rsvp_objects.specs.declared.kind.Kind.TheVariants as kinds
use Rattle.rsvp_objects.specs.declared.kind.Treatment.TheVariants as treatments
use Rattle.rsvp_objects.specs.declared.values.FastReroute.{FastReroute}
use Rattle.rsvp_objects.specs.declared.object.Object.{Object}
use Rattle.rsvp_objects.specs.declared.object.Object.TheVariants as objects
use Rattle.rsvp_objects.specs.Raw.{Raw}
use Rattle.rsvp_objects.specs.Kinds.{kind_of}
use Rattle.rsvp_contents.specs.Flows.{if_some}
use Rattle.rsvp_contents.specs.Counting.{class_of, is_flow_class, is_used_by_path, repeats_as, passes_as, passes, refuses_as}
use Rattle.rsvp_contents.specs.Fitting.{are_passed_by, has_adspec_last, has_one_fast_reroute}
use Rattle.rsvp_contents.specs.Written.{before_sender, adspec}
use Rattle.rsvp_contents.proofs.Totals.{total, one_if, if_some_of, total-append, total-if_some}
use Rattle.rsvp_contents.proofs.Once.{is_class, repeats_at, CountsOnce}
use Rattle.rsvp_contents.proofs.LastAlone.{split_last}
use Rattle.rsvp_contents.proofs.Rows.{is_plain}

-- whether an object is ADSPEC or passes
abbrev pub is_passed_on : ℕ → Raw → Bool
is_passed_on type o = nat_eq o.class 13 || passes type (objects.Other o)

-- both tests of a conjunction of a number's and another
both_tests : (a b : Bool) → (a && b) ≡ true → (a ≡ true) × (b ≡ true)
both_tests true b e = (refl, e)
both_tests false b e = absurd cc

-- what is passed on by its kind makes no message unknown
passes_refuses : (type : ℕ) (kind : Kind) (class : ℕ) → passes_as type kind class ≡ true → refuses_as type kind class ≡ false
passes_refuses type kinds.PolicyData class e = refl
passes_refuses type (kinds.Unknown treatments.Forward) class e = refl
passes_refuses type (kinds.Unknown treatments.Ignore) class e = absurd (false≢true e)
passes_refuses type (kinds.Unknown treatments.Reject) class e = absurd (false≢true e)
passes_refuses type kinds.Unlisted class e =
    let tests = both_tests (nat_eq type 1) (nat_eq class 205) e in
    rw (tests.0, eqb-true class 205 tests.1) refl
passes_refuses type _ class e = absurd (false≢true e)

-- of class 4, INTEGRITY, nothing passes, nor of the classes of flow descriptors
passes_class : (type class ctype n : ℕ) → passes_as type (kind_of n ctype) n ≡ false → passes_as type (kind_of class ctype) class ≡ true → nat_eq class n ≡ false
passes_class type class ctype n none e =
    elim (cases_Bool (nat_eq class n)) [
      | inl same ↦ absurd (false≢true (sym none ∙ subst (λ (v : ℕ). passes_as type (kind_of v ctype) v ≡ true) (eqb-true class n same) e))
      | inr other ↦ other
    ]

-- a C-Type that is not listed for a class that a message may have
unlisted_passes : (type : ℕ) (listed : Bool) (kind : Kind) (n : ℕ) → passes_as type kind n ≡ false → nat_eq n 205 ≡ false → passes_as type (if listed then kind else kinds.Unlisted) n ≡ false
unlisted_passes type true kind n e h = e
unlisted_passes type false kind n e h = rw h (none (nat_eq type 1))
  where
    none : (b : Bool) → (b && false) ≡ false
    none true = refl
    none false = refl

-- what is passed on is plain
neither_holds : (a b : Bool) → a ≡ false → b ≡ false → (not a && not b) ≡ true
neither_holds true b e h = absurd cc
neither_holds false true e h = absurd cc
neither_holds false false e h = refl

adspec_plain : (type class ctype : ℕ) → class ≡ 13 → (not (nat_eq class 4) && not (refuses_as type (kind_of class ctype) class)) ≡ true
unfolding kind_of
adspec_plain type class ctype e = ap (λ (n : ℕ). not (nat_eq n 4) && not (refuses_as type (kind_of n ctype) n)) e

no_integrity_passes : (type ctype : ℕ) → passes_as type (kind_of 4 ctype) 4 ≡ false
unfolding kind_of
no_integrity_passes type ctype = refl

pub passed_plain : (type : ℕ) (o : Raw) → is_passed_on type o ≡ true → is_plain type (objects.Other o) ≡ true
passed_plain type o h =
    elim (cases_Bool (nat_eq o.class 13)) [
      | inl is ↦ adspec_plain type o.class o.ctype (eqb-true o.class 13 is)
      | inr other ↦
          let passed : passes type (objects.Other o) ≡ true = subst (λ (b : Bool). (b || passes type (objects.Other o)) ≡ true) other h in
          neither_holds (nat_eq o.class 4) (refuses_as type (kind_of o.class o.ctype) o.class) (passes_class type o.class o.ctype 4 (no_integrity_passes type o.ctype) passed) (passes_refuses type (kind_of o.class o.ctype) o.class passed)
    ]

pub kept_plain : (type : ℕ) (t : Raw → Bool) (os : List Raw) → are_passed_by type os ≡ true → list_all (is_plain type) (map objects.Other (filter t os)) ≡ true
kept_plain type t [] h = refl
kept_plain type t (o ∷ os) h =
    let parts = and_parts (is_passed_on type o) (are_passed_by type os) h in
    chosen (t o) (filter t os) (kept_plain type t os parts.1) (passed_plain type o parts.0)
  where
    chosen : (test : Bool) (os : List Raw) → list_all (is_plain type) (map objects.Other os) ≡ true → is_plain type (objects.Other o) ≡ true → list_all (is_plain type) (map objects.Other (if test then o ∷ os else os)) ≡ true
    chosen true os rest here = and_from (is_plain type (objects.Other o)) (list_all (is_plain type) (map objects.Other os)) here rest
    chosen false os rest here = rest

pub all_plain : (type : ℕ) (os : List Raw) → are_passed_by type os ≡ true → list_all (is_plain type) (map objects.Other os) ≡ true
all_plain type [] h = refl
all_plain type (o ∷ os) h =
    let parts = and_parts (is_passed_on type o) (are_passed_by type os) h in
    and_from (is_plain type (objects.Other o)) (list_all (is_plain type) (map objects.Other os)) (passed_plain type o parts.0) (all_plain type os parts.1)

-- what is passed on and does not repeat is of class 205, of a Path
passes_single : (type : ℕ) (kind : Kind) (class : ℕ) → passes_as type kind class ≡ true → repeats_as kind ≡ false → (nat_eq type 1 && nat_eq class 205) ≡ true
passes_single type kinds.PolicyData class e h = absurd cc
passes_single type (kinds.Unknown treatment) class e h = absurd cc
passes_single type kinds.Unlisted class e h = e
passes_single type _ class e h = absurd (false≢true e)

or_first : (a b : Bool) → (a || b) ≡ false → a ≡ false
or_first true b e = absurd cc
or_first false b e = refl

-- an object that passes, of a class of which one counts
front_single : (type class : ℕ) (o : Raw) → CountsOnce type class → is_passed_on type o ≡ true → nat_eq o.class 13 ≡ false → o.class ≡ class → (nat_eq type 1 && nat_eq o.class 205) ≡ true
front_single type class o alone passed other same =
    let test : passes type (objects.Other o) ≡ true = subst (λ (b : Bool). (b || passes type (objects.Other o)) ≡ true) other passed in
    let single = or_first (repeats_as (kind_of o.class o.ctype)) _ (subst (λ (n : ℕ). repeats_at type n o.ctype ≡ false) (sym same) (alone o.ctype)) in
    passes_single type (kind_of o.class o.ctype) o.class test single

-- 1 where the class is n, and a test as a number
abbrev one_of : ℕ → ℕ → ℕ
one_of n class = if nat_eq n class then 1 else 0

abbrev as_number : Bool → ℕ
as_number b = if b then 1 else 0

-- so it is counted where that is the class
front_here : (type class : ℕ) (o : Raw) → CountsOnce type class → is_passed_on type o ≡ true → nat_eq o.class 13 ≡ false → one_of o.class class ≤ (if nat_eq type 1 && nat_eq 205 class then as_number (nat_eq o.class 205) else 0)
front_here type class o alone passed other =
    elim (cases_Bool (nat_eq o.class class)) [
      | inl same ↦
          let is = both_tests (nat_eq type 1) (nat_eq o.class 205) (front_single type class o alone passed other (eqb-true o.class class same)) in
          let there : nat_eq 205 class ≡ true = eq-eqb 205 class (sym (eqb-true o.class 205 is.1) ∙ eqb-true o.class class same) in
          rw (is.0, there, is.1, same) (omega arith)
      | inr different ↦ omega (arith, ap as_number different)
    ]

-- one step of the next lemma: one more object measures at most n
kept_step : (w : Object → ℕ) (test : Bool) (o : Raw) (os : List Raw) (n : ℕ) → (test ≡ true → w (objects.Other o) ≤ n) → total w (map objects.Other (if test then o ∷ os else os)) ≤ n + total w (map objects.Other os)
kept_step w true o os n h = omega (arith, h refl)
kept_step w false o os n h = omega arith

-- and another: a bound of both parts is one of the whole
kept_sum : (b : Bool) (size n k count : ℕ) → size ≤ (if b then n else 0) + (if b then k else 0) → count ≡ n + k → size ≤ (if b then count else 0)
kept_sum true size n k count h e = omega arith
kept_sum false size n k count h e = omega arith

-- what is kept measures at most as many as pass p, where b holds, and else nothing
kept_total : (type : ℕ) (w : Object → ℕ) (t p : Raw → Bool) (b : Bool) → ((o : Raw) → is_passed_on type o ≡ true → t o ≡ true → w (objects.Other o) ≤ (if b then as_number (p o) else 0)) →
    (os : List Raw) → are_passed_by type os ≡ true → total w (map objects.Other (filter t os)) ≤ (if b then count_by p os else 0)
kept_total type w t p b each [] h = kept_sum b 0 0 0 0 (omega arith) (omega arith)
kept_total type w t p b each (o ∷ os) h =
    let parts = and_parts (is_passed_on type o) (are_passed_by type os) h in
    let rest = kept_total type w t p b each os parts.1 in
    let here = kept_step w (t o) o (filter t os) (if b then as_number (p o) else 0) (each o parts.0) in
    kept_sum b _ (as_number (p o)) (count_by p os) (count_by p (o ∷ os)) (omega (arith, rest, here)) (sum_by-cons (λ x. as_number (p x)) o os)

-- what stands before the sender, of a class of which one counts
front_total : (type class : ℕ) (os : List Raw) → CountsOnce type class → are_passed_by type os ≡ true → total (one_if (is_class class)) (before_sender os) ≤ (if nat_eq type 1 && nat_eq 205 class then count_by (λ o. nat_eq o.class 205) os else 0)
front_total type class os alone h =
    kept_total type (one_if (is_class class)) (λ o. not (nat_eq o.class 13)) (λ o. nat_eq o.class 205) (nat_eq type 1 && nat_eq 205 class)
    (λ o passed other. front_here type class o alone passed (not-true (nat_eq o.class 13) other)) os h

-- an ADSPEC is counted where its class is asked for
back_here : (class : ℕ) (o : Raw) → nat_eq o.class 13 ≡ true → one_of o.class class ≤ (if nat_eq 13 class then as_number (nat_eq o.class 13) else 0)
back_here class o is =
    let same : one_of o.class class ≡ one_of 13 class = ap (λ (n : ℕ). one_of n class) (eqb-true o.class 13 is) in
    let here : (if nat_eq 13 class then as_number (nat_eq o.class 13) else 0) ≡ one_of 13 class = ap (λ (b : Bool). if nat_eq 13 class then as_number b else as_number false) is in
    omega arith

back_total : (type class : ℕ) (os : List Raw) → are_passed_by type os ≡ true → total (one_if (is_class class)) (adspec os) ≤ (if nat_eq 13 class then count_by (λ o. nat_eq o.class 13) os else 0)
back_total type class os h =
    kept_total type (one_if (is_class class)) (λ o. nat_eq o.class 13) (λ o. nat_eq o.class 13) (nat_eq 13 class)
    (λ o passed is. back_here class o is) os h

-- of what is bounded by one where a test holds, one is counted there
once_there : (b : Bool) (back n : ℕ) → back ≤ (if b then n else 0) → n ≤ 1 → back ≤ as_number b
once_there true back n h one = omega arith
once_there false back n h one = omega arith

both_once : (b : Bool) (own front m n : ℕ) → own ≤ (if b then m else 0) → front ≤ (if b then n else 0) → m + n ≤ 1 → own + front ≤ as_number b
both_once true own front m n h k one = omega arith
both_once false own front m n h k one = omega arith

-- the ADSPEC is there once
pub back_once : (type class : ℕ) (os : List Raw) → are_passed_by type os ≡ true → has_adspec_last os ≡ true → total (one_if (is_class class)) (adspec os) ≤ one_of 13 class
back_once type class os passed last =
    once_there (nat_eq 13 class) _ (count_by (λ o. nat_eq o.class 13) os) (back_total type class os passed) (split_last (λ (o : Raw). nat_eq o.class 13) os last).1

-- a Path's own FAST_REROUTE is counted where that is the class
own_here : (class : ℕ) (own : Option FastReroute) → total (one_if (is_class class)) (if_some own objects.FastReroute) ≤ (if nat_eq 205 class then option_map_or (λ _. 1) own 0 else 0)
own_here class None = none (nat_eq 205 class)
  where
    none : (b : Bool) → 0 ≤ (if b then 0 else 0)
    none true = omega arith
    none false = omega arith
own_here class (Some f) = omega arith

-- and FAST_REROUTE is there once, the Path's own or one that is passed on
pub front_once : (class : ℕ) (own : Option FastReroute) (os : List Raw) → CountsOnce 1 class → are_passed_by 1 os ≡ true → has_one_fast_reroute own os ≡ true → total (one_if (is_class class)) (if_some own objects.FastReroute ++ before_sender os) ≤ one_of 205 class
front_once class own os alone passed fast =
    let sum = total-append (one_if (is_class class)) (if_some own objects.FastReroute) (before_sender os) in
    let both = both_once (nat_eq 205 class) _ _ (option_map_or (λ _. 1) own 0) (count_by (λ o. nat_eq o.class 205) os) (own_here class own) (front_total 1 class os alone passed) (leb-true _ 1 fast) in
    omega (arith, sum, both)

-- a Resv passes on no other class of which one counts
pub passing_once : (class : ℕ) (os : List Raw) → CountsOnce 2 class → are_passed_by 2 os ≡ true → has_adspec_last os ≡ true → total (one_if (is_class class)) (map objects.Other os) ≤ one_of 13 class
passing_once class os alone passed last =
    let t : Raw → Bool = λ o. nat_eq o.class 13 in
    let split = (split_last t os last).0 in
    let parts : map objects.Other os ≡ before_sender os ++ adspec os = ap (λ (v : List Raw). map objects.Other v) (sym split) ∙ map-append objects.Other (filter (λ o. not (t o)) os) (filter t os) in
    omega (
      arith,
      ap (total (one_if (is_class class))) parts,
      total-append (one_if (is_class class)) (before_sender os) (adspec os),
      front_total 2 class os alone passed,
      back_once 2 class os passed last,
    )

-- nor one of flow descriptors
passed_no_flow : (o : Raw) → is_passed_on 2 o ≡ true → is_flow_class o.class ≡ false
unfolding kind_of
passed_no_flow o h =
    elim (cases_Bool (nat_eq o.class 13)) [
      | inl is ↦ ap is_flow_class (eqb-true o.class 13 is)
      | inr other ↦
          let passed : passes 2 (objects.Other o) ≡ true = subst (λ (b : Bool). (b || passes 2 (objects.Other o)) ≡ true) other h in
          let a = passes_class 2 o.class o.ctype 9 (unlisted_passes 2 (nat_eq o.ctype 2) kinds.Flowspec 9 refl refl) passed in
          let b = passes_class 2 o.class o.ctype 10 (unlisted_passes 2 (nat_eq o.ctype 7) kinds.FilterSpec 10 refl refl) passed in
          let c = passes_class 2 o.class o.ctype 16 (unlisted_passes 2 (nat_eq o.ctype 1) kinds.Label 16 refl refl) passed in
          let d = passes_class 2 o.class o.ctype 21 (unlisted_passes 2 (nat_eq o.ctype 1) kinds.RecordRoute 21 refl refl) passed in
          rw (turn o.class 9 a, turn o.class 10 b, turn o.class 16 c, turn o.class 21 d) refl
    ]
  where
    turn : (n m : ℕ) → nat_eq n m ≡ false → nat_eq m n ≡ false
    turn n m e =
        elim (cases_Bool (nat_eq m n)) [
          | inl same ↦ absurd (false≢true (sym e ∙ eq-eqb n m (sym (eqb-true m n same))))
          | inr other ↦ other
        ]

pub all_no_flow : (os : List Raw) → are_passed_by 2 os ≡ true → list_any (λ o. is_flow_class (class_of o)) (map objects.Other os) ≡ false
all_no_flow [] h = refl
all_no_flow (o ∷ os) h =
    let parts = and_parts (is_passed_on 2 o) (are_passed_by 2 os) h in
    neither (is_flow_class o.class) (list_any (λ x. is_flow_class (class_of x)) (map objects.Other os)) (passed_no_flow o parts.0) (all_no_flow os parts.1)
  where
    neither : (a b : Bool) → a ≡ false → b ≡ false → (a || b) ≡ false
    neither true b e h = absurd cc
    neither false b e h = h

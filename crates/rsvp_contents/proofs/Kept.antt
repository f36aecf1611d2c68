-- Filters of objects, and how what passes is kept unread.
use Rattle.std.proofs.Common.{◌≡◌, ℕ, Bool, true, false, if◌then◌else◌, List, [], ◌∷◌, ◌++◌, map, Option, Some, None, refl, sym, ap, ◌∙◌}
use Rattle.std.specs.Prelude.{nat_eq}
use Rattle.std.specs.List.{filter}
use Rattle.std.proofs.lemmas.Bool.{false≢true, eqb-true, cond-true, cond-false, false_from_ne_true}
use Rattle.std.specs.Option.{option_map_or}
use Rattle.rsvp_objects.specs.Below.bodies.declared.affinities.Affinities.{Affinities}
use Rattle.rsvp_objects.specs.declared.object.Object.{Object}
use Rattle.rsvp_objects.specs.declared.object.Object.TheVariants as objects
use Rattle.rsvp_objects.specs.Raw.{Raw}
use Rattle.rsvp_objects.specs.Objects.{raw_of}
use Rattle.rsvp_objects.specs.Kinds.{kind_of}
use Rattle.rsvp_contents.specs.Counting.{class_of, passes, passes_as}
use Rattle.rsvp_contents.specs.Written.{if_some}

-- ADSPEC, class 13
abbrev pub is_adspec : Object → Bool
is_adspec o = nat_eq (class_of o) 13

-- an object whose bytes are kept
abbrev pub IsKept : Object → Type 0
IsKept o = objects.Other (raw_of o) ≡ o

-- one step of the next lemma
keep_step : (q : Object → Bool) (test : Bool) (o : Object) (xs : List Object) → (test ≡ true → q o ≡ true) → filter q xs ≡ xs →
    filter q (if test then o ∷ xs else xs) ≡ (if test then o ∷ xs else xs)
keep_step q true o xs h e = cond-true (q o) (o ∷ filter q xs) (filter q xs) (h refl) ∙ ap (λ (v : List Object). o ∷ v) e
keep_step q false o xs h e = e

-- what passes one test and so another is kept by that too
pub filter_again : (p q : Object → Bool) → ((o : Object) → p o ≡ true → q o ≡ true) → (os : List Object) → filter q (filter p os) ≡ filter p os
filter_again p q each [] = refl
filter_again p q each (o ∷ os) = keep_step q (p o) o (filter p os) (each o) (filter_again p q each os)

-- one step of the next lemma
drop_step : (q : Object → Bool) (test : Bool) (o : Object) (xs : List Object) → (test ≡ true → q o ≡ false) → filter q xs ≡ [] →
    filter q (if test then o ∷ xs else xs) ≡ []
drop_step q true o xs h e = cond-false (q o) (o ∷ filter q xs) (filter q xs) (h refl) ∙ e
drop_step q false o xs h e = e

-- what passes one test and so fails another is left out by that
pub filter_gone : (p q : Object → Bool) → ((o : Object) → p o ≡ true → q o ≡ false) → (os : List Object) → filter q (filter p os) ≡ []
filter_gone p q each [] = refl
filter_gone p q each (o ∷ os) = drop_step q (p o) o (filter p os) (each o) (filter_gone p q each os)

-- an object that may be absent and fails the test is left out
pub filter_skip : {X : Type 0} (p : Object → Bool) (as_object : X → Object) → ((x : X) → p (as_object x) ≡ false) → (o : Option X) (ys : List Object) → filter p (if_some o as_object ++ ys) ≡ filter p ys
filter_skip p as_object fails None ys = refl
filter_skip p as_object fails (Some x) ys = cond-false (p (as_object x)) (as_object x ∷ filter p ys) (filter p ys) (fails x)

-- alone it leaves nothing
pub filter_none : {X : Type 0} (p : Object → Bool) (as_object : X → Object) → ((x : X) → p (as_object x) ≡ false) → (o : Option X) → filter p (if_some o as_object) ≡ []
filter_none p as_object fails None = refl
filter_none p as_object fails (Some x) = cond-false (p (as_object x)) (as_object x ∷ []) [] (fails x)

-- attributes do not pass
pub attr_passes : (type : ℕ) (affinities : Option Affinities) → passes_as type (kind_of 207 (option_map_or (λ _. 1) affinities 7)) 207 ≡ false
unfolding kind_of
attr_passes type None = refl
attr_passes type (Some a) = refl

-- a test that fails does not hold
pub fails_not : {P : Type 0} (test : Bool) → test ≡ false → test ≡ true → P
fails_not test e f = absurd (false≢true (sym e ∙ f))

-- an object that passes is kept as its bytes
pub passes-IsKept : (type : ℕ) (o : Object) → passes type o ≡ true → IsKept o
unfolding kind_of
passes-IsKept type (objects.Other raw) e = refl
passes-IsKept type (objects.SessionAttribute a) e = fails_not (passes type (objects.SessionAttribute a)) (attr_passes type a.affinities) e
passes-IsKept type o e = absurd (false≢true e)

-- and so is an ADSPEC
pub is_adspec-IsKept : (o : Object) → is_adspec o ≡ true → IsKept o
is_adspec-IsKept (objects.Other raw) e = refl
is_adspec-IsKept o e = absurd (false≢true e)

-- class 13 does not pass, whatever the C-Type
adspec_passes : (type class ctype : ℕ) → class ≡ 13 → passes_as type (kind_of class ctype) class ≡ false
unfolding kind_of
adspec_passes type class ctype e = ap (λ (n : ℕ). passes_as type (kind_of n ctype) n) e

-- so an ADSPEC does not pass
pub is_adspec-passes : (type : ℕ) (o : Object) → is_adspec o ≡ true → passes type o ≡ false
is_adspec-passes type o e = adspec_passes type (class_of o) (raw_of o).ctype (eqb-true (class_of o) 13 e)

-- and what passes is no ADSPEC
pub passes-is_adspec : (type : ℕ) (o : Object) → passes type o ≡ true → is_adspec o ≡ false
passes-is_adspec type o e = false_from_ne_true (is_adspec o) (λ is. fails_not (passes type o) (is_adspec-passes type o is) e)

-- one step of the next lemma
other_step : (t : Raw → Bool) (test : Bool) (o : Object) (xs : List Object) → (test ≡ true → t (raw_of o) ≡ true) → (test ≡ true → IsKept o) → map objects.Other (filter t (map raw_of xs)) ≡ xs →
    map objects.Other (filter t (map raw_of (if test then o ∷ xs else xs))) ≡ (if test then o ∷ xs else xs)
other_step t true o xs h k e =
    ap (λ (v : List Raw). map objects.Other v) (cond-true (t (raw_of o)) (raw_of o ∷ filter t (map raw_of xs)) (filter t (map raw_of xs)) (h refl))
    ∙ ap (λ (x : Object). x ∷ map objects.Other (filter t (map raw_of xs))) (k refl)
    ∙ ap (λ (v : List Object). o ∷ v) e
other_step t false o xs h k e = e

-- what passes p is given back from what is kept of it, where its bytes pass t
pub other_again : (p : Object → Bool) (t : Raw → Bool) → ((o : Object) → p o ≡ true → t (raw_of o) ≡ true) → ((o : Object) → p o ≡ true → IsKept o) → (os : List Object) →
    map objects.Other (filter t (map raw_of (filter p os))) ≡ filter p os
other_again p t each kept [] = refl
other_again p t each kept (o ∷ os) = other_step t (p o) o (filter p os) (each o) (kept o) (other_again p t each kept os)

-- one step of the next lemma
gone_step : (t : Raw → Bool) (test : Bool) (o : Object) (xs : List Object) → (test ≡ true → t (raw_of o) ≡ false) → filter t (map raw_of xs) ≡ [] → filter t (map raw_of (if test then o ∷ xs else xs)) ≡ []
gone_step t true o xs h e = cond-false (t (raw_of o)) (raw_of o ∷ filter t (map raw_of xs)) (filter t (map raw_of xs)) (h refl) ∙ e
gone_step t false o xs h e = e

-- nothing of it is given back where its bytes fail t
pub other_gone : (p : Object → Bool) (t : Raw → Bool) → ((o : Object) → p o ≡ true → t (raw_of o) ≡ false) → (os : List Object) → filter t (map raw_of (filter p os)) ≡ []
other_gone p t each [] = refl
other_gone p t each (o ∷ os) = gone_step t (p o) o (filter p os) (each o) (other_gone p t each os)

-- What a Path whose parts fit passes on is read again as that.
use Rattle.std.proofs.Common.{◌≡◌, ℕ, Bool, true, false, not, ◌||◌, nat_eq, if◌then◌else◌, List, [], ◌∷◌, ◌++◌, map, refl, sym, ap, ap₂, ◌∙◌, subst, inl, inr}
use Rattle.std.specs.List.{filter}
use Rattle.std.proofs.lemmas.Bool.{and_parts, cases_Bool, not_from_true, not_from_false}
use Rattle.rsvp_objects.specs.declared.object.Object.{Object}
use Rattle.rsvp_objects.specs.declared.object.Object.TheVariants as objects
use Rattle.rsvp_objects.specs.Raw.{Raw}
use Rattle.rsvp_objects.specs.Objects.{raw_of}
use Rattle.rsvp_contents.specs.Counting.{passes}
use Rattle.rsvp_contents.specs.Fitting.{are_passed_by, has_adspec_last}
use Rattle.rsvp_contents.specs.Picking.{passing_of}
use Rattle.rsvp_contents.proofs.Kept.{is_adspec, is_adspec-passes}
use Rattle.rsvp_contents.proofs.LastAlone.{split_last}

-- one step of the next lemma
kept_step : (test : Bool) (o : Raw) (xs : List Object) (os : List Raw) → xs ≡ map objects.Other os → (if test then objects.Other o ∷ xs else xs) ≡ map objects.Other (if test then o ∷ os else os)
kept_step true o xs os e = ap (λ (v : List Object). objects.Other o ∷ v) e
kept_step false o xs os e = e

-- objects that are kept unread are filtered by their bytes
filter-kept : (q : Object → Bool) (os : List Raw) → filter q (map objects.Other os) ≡ map objects.Other (filter (λ o. q (objects.Other o)) os)
filter-kept q [] = refl
filter-kept q (o ∷ os) = kept_step (q (objects.Other o)) o (filter q (map objects.Other os)) (filter (λ x. q (objects.Other x)) os) (filter-kept q os)

-- and their bytes are kept
raws_again : (os : List Raw) → map raw_of (map objects.Other os) ≡ os
raws_again [] = refl
raws_again (o ∷ os) = ap (λ (v : List Raw). o ∷ v) (raws_again os)

-- what is an ADSPEC or passes, passes where it is no ADSPEC
passes_unless : (type : ℕ) (o : Raw) → (nat_eq o.class 13 || passes type (objects.Other o)) ≡ true → passes type (objects.Other o) ≡ not (nat_eq o.class 13)
passes_unless type o h =
    elim (cases_Bool (nat_eq o.class 13)) [
      | inl is ↦ is_adspec-passes type (objects.Other o) is ∙ sym (not_from_true (nat_eq o.class 13) is)
      | inr other ↦ subst (λ (b : Bool). (b || passes type (objects.Other o)) ≡ true) other h ∙ sym (not_from_false (nat_eq o.class 13) other)
    ]

-- so that what passes is what stands before the sender
filter_passes : (type : ℕ) (os : List Raw) → are_passed_by type os ≡ true → filter (λ o. passes type (objects.Other o)) os ≡ filter (λ o. not (nat_eq o.class 13)) os
filter_passes type [] h = refl
filter_passes type (o ∷ os) h =
    let parts = and_parts (nat_eq o.class 13 || passes type (objects.Other o)) (are_passed_by type os) h in
    ap (λ (b : Bool). if b then o ∷ filter (λ x. passes type (objects.Other x)) os else filter (λ x. passes type (objects.Other x)) os) (passes_unless type o parts.0)
    ∙ ap (λ (v : List Raw). if not (nat_eq o.class 13) then o ∷ v else v) (filter_passes type os parts.1)

-- what is passed on is passed on again
pub passing_again : (type : ℕ) (os : List Raw) → are_passed_by type os ≡ true → has_adspec_last os ≡ true → passing_of type (map objects.Other os) ≡ os
passing_again type os passed last =
    ap₂ (λ (xs ys : List Object). map raw_of xs ++ map raw_of ys) (filter-kept (passes type) os) (filter-kept is_adspec os)
    ∙ ap₂ (λ (xs ys : List Raw). xs ++ ys)
    (raws_again (filter (λ o. passes type (objects.Other o)) os) ∙ filter_passes type os passed)
    (raws_again (filter (λ o. nat_eq o.class 13) os))
    ∙ (split_last (λ (o : Raw). nat_eq o.class 13) os last).0

-- Error flow descriptors and filters are read again from what they are written as, which stood among what
-- they were read from.
use Rattle.std.proofs.Common.{◌≡◌, ◌≤◌, ◌+◌, ℕ, Bool, true, false, not, ◌||◌, if◌then◌else◌, List, [], ◌∷◌, ◌++◌, map, Option, Some, None, is_some, refl, sym, ap, subst, arith}
use Rattle.std.specs.List.{list_all}
use Rattle.std.proofs.lemmas.Bool.{and_parts, and_from}
use Rattle.rsvp_objects.specs.declared.values.Template.{Template}
use Rattle.rsvp_objects.specs.declared.object.Object.{Object}
use Rattle.rsvp_objects.specs.declared.object.Object.TheVariants as objects
use Rattle.rsvp_contents.specs.declared.descriptors.ErrorDescriptor.{ErrorDescriptor}
use Rattle.rsvp_contents.specs.Errors.{counting_objects, error_objects, errors_of, counts_on, filters_of}
use Rattle.rsvp_contents.specs.Flows.{is_same, is_flow}
use Rattle.rsvp_contents.proofs.FlowsAgain.{same_bytes, flowspec_most, flowspec_none, flowspec_are_flow}
use Rattle.rsvp_contents.proofs.FlowTotals.{total, total-append}

-- a FLOWSPEC that counts is read, or counts already
by_test : (test : Bool) (b f : List ℕ) (t : Template) (os : List Object) (es : List ErrorDescriptor) → is_same b f ≡ test → errors_of (Some f) os ≡ es →
    errors_of (Some b) ((if test then [] else objects.Flowspec f ∷ []) ++ (objects.FilterSpec t ∷ os)) ≡ record { flowspec = Some f; filter = t } ∷ es
by_test true b f t os es e h =
    subst (λ (g : List ℕ). errors_of (Some g) (objects.FilterSpec t ∷ os) ≡ record { flowspec = Some f; filter = t } ∷ es) (sym (same_bytes b f e))
    (ap (λ (v : List ErrorDescriptor). record { flowspec = Some f; filter = t } ∷ v) h)
by_test false b f t os es e h = ap (λ (v : List ErrorDescriptor). record { flowspec = Some f; filter = t } ∷ v) h

one_again : (before flowspec : Option (List ℕ)) (t : Template) (os : List Object) (es : List ErrorDescriptor) → (not (is_some before) || is_some flowspec) ≡ true → errors_of flowspec os ≡ es →
    errors_of before (counting_objects before flowspec ++ (objects.FilterSpec t ∷ os)) ≡ record { flowspec = flowspec; filter = t } ∷ es
one_again None None t os es h e = ap (λ (v : List ErrorDescriptor). record { flowspec = None; filter = t } ∷ v) e
one_again None (Some f) t os es h e = ap (λ (v : List ErrorDescriptor). record { flowspec = Some f; filter = t } ∷ v) e
one_again (Some b) None t os es h e = absurd cc
one_again (Some b) (Some f) t os es h e = by_test (is_same b f) b f t os es refl e

-- error flow descriptors are read again
pub errors_again : (before : Option (List ℕ)) (es : List ErrorDescriptor) → counts_on (is_some before) es ≡ true → errors_of before (error_objects before es) ≡ es
errors_again before [] h = refl
errors_again before (e ∷ es) h =
    let parts = and_parts (not (is_some before) || is_some e.flowspec) (counts_on (is_some e.flowspec) es) h in
    one_again before e.flowspec e.filter (error_objects e.flowspec es) es parts.0 (errors_again e.flowspec es parts.1)

-- what counts is written at most once
counting_none : (w : Object → ℕ) (f : Option (List ℕ)) → total w (counting_objects f f) ≡ 0
counting_none w None = refl
counting_none w (Some f) = flowspec_none w f

counting_most : (w : Object → ℕ) (before : Option (List ℕ)) (f : List ℕ) → total w (counting_objects before (Some f)) ≤ w (objects.Flowspec f)
counting_most w before f = flowspec_most w before f

-- what is written of error flow descriptors stood among the objects that say them, but for what counts before
within_from : (w : Object → ℕ) (before counted : Option (List ℕ)) (os : List Object) → total w (error_objects before (errors_of counted os)) ≤ total w (counting_objects before counted) + total w os
within_from w before counted [] = omega arith
within_from w before counted (objects.Flowspec f ∷ os) = omega (arith, within_from w before (Some f) os, counting_most w before f)
within_from w before counted (objects.FilterSpec t ∷ os) =
    omega (arith, within_from w counted counted os, counting_none w counted, total-append w (counting_objects before counted) (objects.FilterSpec t ∷ error_objects counted (errors_of counted os)))
within_from w before counted (o ∷ os) = omega (arith, within_from w before counted os)

pub errors_within : (w : Object → ℕ) (os : List Object) → total w (error_objects None (errors_of None os)) ≤ total w os
errors_within w os = omega (arith, within_from w None None os)

-- one counts on behind what counts
on_itself : (b : Bool) → (not b || b) ≡ true
on_itself true = refl
on_itself false = refl

on_one : (b : Bool) → (not b || true) ≡ true
on_one true = refl
on_one false = refl

counts_from : (before : Bool) (counted : Option (List ℕ)) (os : List Object) → (not before || is_some counted) ≡ true → counts_on before (errors_of counted os) ≡ true
counts_from before counted [] h = refl
counts_from before counted (objects.Flowspec f ∷ os) h = counts_from before (Some f) os (on_one before)
counts_from before counted (objects.FilterSpec t ∷ os) h =
    and_from (not before || is_some counted) (counts_on (is_some counted) (errors_of counted os)) h (counts_from (is_some counted) counted os (on_itself (is_some counted)))
counts_from before counted (o ∷ os) h = counts_from before counted os h

pub errors_count_on : (os : List Object) → counts_on false (errors_of None os) ≡ true
errors_count_on os = counts_from false None os refl

-- all of it is of flow descriptors
pub errors_are_flow : (before : Option (List ℕ)) (es : List ErrorDescriptor) → list_all is_flow (error_objects before es) ≡ true
errors_are_flow before [] = refl
errors_are_flow before (e ∷ es) = one_flow before e.flowspec (objects.FilterSpec e.filter ∷ error_objects e.flowspec es) (errors_are_flow e.flowspec es)
  where
    one_flow : (before flowspec : Option (List ℕ)) (os : List Object) → list_all is_flow os ≡ true → list_all is_flow (counting_objects before flowspec ++ os) ≡ true
    one_flow before None os h = h
    one_flow before (Some f) os h = flowspec_are_flow before f os h

-- filters are read again
pub filters_again : (ts : List Template) → filters_of (map objects.FilterSpec ts) ≡ ts
filters_again [] = refl
filters_again (t ∷ ts) = ap (λ (v : List Template). t ∷ v) (filters_again ts)

-- and stood among what they were read from
pub filters_within : (w : Object → ℕ) (os : List Object) → total w (map objects.FilterSpec (filters_of os)) ≤ total w os
filters_within w [] = omega arith
filters_within w (objects.FilterSpec t ∷ os) = omega (arith, filters_within w os)
filters_within w (o ∷ os) = omega (arith, filters_within w os)

pub filters_are_flow : (ts : List Template) → list_all is_flow (map objects.FilterSpec ts) ≡ true
filters_are_flow [] = refl
filters_are_flow (t ∷ ts) = filters_are_flow ts

-- What a ResvErr and a ResvTear say behind STYLE (RFC 2205, 3.1.6 and 3.1.8; RFC 3209, 3.2).
use Rattle.std.specs.Prelude.{ℕ, Bool, true, not, ◌||◌, ◌&&◌, List, [], ◌∷◌, ◌++◌, Option, Some, None, is_some}
use Rattle.rsvp_objects.specs.declared.values.Template.{Template}
use Rattle.rsvp_objects.specs.declared.object.Object.{Object}
use Rattle.rsvp_objects.specs.declared.object.Object.TheVariants as objects
use Rattle.rsvp_contents.specs.declared.descriptors.ErrorDescriptor.{ErrorDescriptor}
use Rattle.rsvp_contents.specs.Flows.{flowspec_objects}

-- the FLOWSPEC that counts, where there is one and it doesn't count already
abbrev pub counting_objects : Option (List ℕ) → Option (List ℕ) → List Object
counting_objects before None = []
counting_objects before (Some flowspec) = flowspec_objects before flowspec

-- What error flow descriptors are written as: FLOWSPEC where it is another than the one before, FILTER_SPEC.
abbrev pub error_objects : Option (List ℕ) → List ErrorDescriptor → List Object
error_objects before [] = []
error_objects before (e ∷ es) = counting_objects before e.flowspec ++ (objects.FilterSpec e.filter ∷ error_objects e.flowspec es)

-- The error flow descriptors that objects say: a FLOWSPEC counts for each FILTER_SPEC behind it, up to the
-- next. Other objects aren't looked at.
abbrev pub errors_of : Option (List ℕ) → List Object → List ErrorDescriptor
errors_of before [] = []
errors_of before (objects.Flowspec f ∷ os) = errors_of (Some f) os
errors_of before (objects.FilterSpec t ∷ os) = record { flowspec = before; filter = t } ∷ errors_of before os
errors_of before (_ ∷ os) = errors_of before os

-- Behind a descriptor for which a FLOWSPEC counts, one counts for each; `counted` is whether one does already.
abbrev pub counts_on : Bool → List ErrorDescriptor → Bool
counts_on counted [] = true
counts_on counted (e ∷ es) = (not counted || is_some e.flowspec) && counts_on (is_some e.flowspec) es

-- The LSPs that objects name by a FILTER_SPEC.
abbrev pub filters_of : List Object → List Template
filters_of [] = []
filters_of (objects.FilterSpec t ∷ os) = t ∷ filters_of os
filters_of (_ ∷ os) = filters_of os

-- Flow descriptors of a Resv (RFC 2205, 3.1.4; RFC 3209, 3.2): the objects that say them, and what objects say.
use Rattle.std.specs.Prelude.{ℕ, Bool, true, false, not, ◌&&◌, ◌||◌, if◌then◌else◌, nat_eq, nat_lt, List, [], ◌∷◌, ◌++◌, Option, Some, None, ◌==◌, length}
use Rattle.std.specs.Option.{option_map}
use Rattle.std.specs.List.{list_all, count_by}
use Rattle.std.specs.Cmp.Lexicographic.{pointwise}
use Rattle.rsvp_objects.specs.declared.values.Label.{Label}
use Rattle.rsvp_objects.specs.declared.values.Style.{Style}
use Rattle.rsvp_objects.specs.declared.object.Object.{Object}
use Rattle.rsvp_objects.specs.declared.object.Object.TheVariants as objects
use Rattle.rsvp_contents.specs.declared.descriptors.FlowDescriptor.{FlowDescriptor}
use Rattle.rsvp_contents.specs.Styles.{is_shared, is_other}

-- the object, where there is a value for it
abbrev pub if_some : {X : Type 0} → Option X → (X → Object) → List Object
if_some None as_object = []
if_some (Some x) as_object = as_object x ∷ []

-- Two FLOWSPECs are the same bytes.
abbrev pub is_same : List ℕ → List ℕ → Bool
is_same = pointwise nat_eq

-- a FLOWSPEC, unless it is the one that counts already
abbrev pub flowspec_objects : Option (List ℕ) → List ℕ → List Object
flowspec_objects None flowspec = objects.Flowspec flowspec ∷ []
flowspec_objects (Some before) flowspec = if is_same before flowspec then [] else objects.Flowspec flowspec ∷ []

-- What flow descriptors are written as, behind one for which the FLOWSPEC `before` counts, if there is one:
-- FLOWSPEC where it is another, FILTER_SPEC, LABEL, and RECORD_ROUTE if there is one.
abbrev pub flow_objects : Option (List ℕ) → List FlowDescriptor → List Object
flow_objects before [] = []
flow_objects before (d ∷ ds) =
    flowspec_objects before d.flowspec
    ++ (objects.FilterSpec d.filter ∷ objects.Label d.label ∷ (if_some d.recorded objects.RecordRoute ++ flow_objects (Some d.flowspec) ds))

-- one more flow descriptor, if those behind it are good
abbrev pub with_flow : FlowDescriptor → Option (List FlowDescriptor) → Option (List FlowDescriptor)
with_flow d rest = option_map (λ ds. d ∷ ds) rest

-- The flow descriptors that objects say: each FILTER_SPEC has its LABEL and at most one RECORD_ROUTE, and a
-- FLOWSPEC counts on until the next; `before` is the one that counts already.
abbrev pub flows_of : Option (List ℕ) → List Object → Option (List FlowDescriptor)
flows_of before [] = Some []
flows_of before (objects.Flowspec f ∷ objects.FilterSpec t ∷ objects.Label l ∷ objects.RecordRoute r ∷ os) =
    with_flow (record { flowspec = f; filter = t; label = l; recorded = Some r }) (flows_of (Some f) os)
flows_of before (objects.Flowspec f ∷ objects.FilterSpec t ∷ objects.Label l ∷ os) =
    with_flow (record { flowspec = f; filter = t; label = l; recorded = None }) (flows_of (Some f) os)
flows_of (Some f) (objects.FilterSpec t ∷ objects.Label l ∷ objects.RecordRoute r ∷ os) =
    with_flow (record { flowspec = f; filter = t; label = l; recorded = Some r }) (flows_of (Some f) os)
flows_of (Some f) (objects.FilterSpec t ∷ objects.Label l ∷ os) =
    with_flow (record { flowspec = f; filter = t; label = l; recorded = None }) (flows_of (Some f) os)
flows_of before _ = None

abbrev pub is_flowspec : Object → Bool
is_flowspec (objects.Flowspec f) = true
is_flowspec _ = false

-- an object of flow descriptors
abbrev pub is_flow : Object → Bool
is_flow (objects.Flowspec f) = true
is_flow (objects.FilterSpec t) = true
is_flow (objects.Label l) = true
is_flow (objects.RecordRoute r) = true
is_flow _ = false

-- What the objects behind STYLE say: fixed filter, one or more flow descriptors; shared explicit, the same
-- with a single FLOWSPEC. Of another style nothing is read.
abbrev pub styled_flows : Style → List Object → Option (List FlowDescriptor)
styled_flows style os =
    if is_other style then Some []
    else if length os == 0 || (is_shared style && nat_lt 1 (count_by is_flowspec os)) then None
    else flows_of None os

-- All have the FLOWSPEC of the first.
abbrev pub are_shared : List FlowDescriptor → Bool
are_shared [] = true
are_shared (d ∷ ds) = list_all (λ other. is_same d.flowspec other.flowspec) ds

-- The flow descriptors are such as the style has.
abbrev pub fits_style : Style → List FlowDescriptor → Bool
fits_style style ds = if is_other style then length ds == 0 else not (length ds == 0) && (not (is_shared style) || are_shared ds)

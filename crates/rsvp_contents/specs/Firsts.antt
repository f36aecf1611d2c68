-- The flow descriptor that objects begin with.
use Rattle.std.specs.Prelude.{ℕ, List, ◌∷◌, Option, Some, None}
use Rattle.rsvp_objects.specs.declared.object.Object.{Object}
use Rattle.rsvp_objects.specs.declared.object.Object.TheVariants as objects
use Rattle.rsvp_contents.specs.declared.descriptors.FlowDescriptor.{FlowDescriptor}

-- the FLOWSPEC that counts for what objects begin with, where one may count already, and what is behind it
abbrev pub counting : Option (List ℕ) → List Object → Option (List ℕ) × List Object
counting before (objects.Flowspec f ∷ os) = (Some f, os)
counting before os = (before, os)

-- the flow descriptor that objects begin with, for which a FLOWSPEC counts, and what is behind it
abbrev pub labelled : List ℕ → List Object → Option (FlowDescriptor × List Object)
labelled f (objects.FilterSpec t ∷ objects.Label l ∷ objects.RecordRoute r ∷ os) =
    Some (record { flowspec = f; filter = t; label = l; recorded = Some r }, os)
labelled f (objects.FilterSpec t ∷ objects.Label l ∷ os) = Some (record { flowspec = f; filter = t; label = l; recorded = None }, os)
labelled f os = None

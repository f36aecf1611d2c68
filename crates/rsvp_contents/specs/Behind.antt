-- What stands before STYLE in a message, and what behind it.
use Rattle.std.specs.Prelude.{ℕ, Bool, false, not, ◌&&◌, ◌==◌, if◌then◌else◌, List, [], ◌∷◌, Option, filter}
use Rattle.std.specs.List.{list_any}
use Rattle.std.specs.Option.{option_map_or}
use Rattle.rsvp_objects.specs.declared.object.Object.{Object}
use Rattle.rsvp_objects.specs.declared.object.Object.TheVariants as objects
use Rattle.rsvp_contents.specs.Flows.{is_flow}
use Rattle.rsvp_contents.specs.Styles.{is_other}
use Rattle.rsvp_contents.specs.Counting.{class_of, has_style, is_flow_class}
use Rattle.rsvp_contents.specs.Values.{picked, as_style}

abbrev pub ahead_of_style : List Object → List Object
ahead_of_style [] = []
ahead_of_style (objects.Style s ∷ os) = []
ahead_of_style (o ∷ os) = o ∷ ahead_of_style os

abbrev pub behind_style : List Object → List Object
behind_style [] = []
behind_style (objects.Style s ∷ os) = os
behind_style (o ∷ os) = behind_style os

abbrev pub up_to_style : List Object → List Object
up_to_style [] = []
up_to_style (objects.Style s ∷ os) = objects.Style s ∷ []
up_to_style (o ∷ os) = o ∷ up_to_style os

-- Of a Resv (type 2) of another style than FF and SE nothing behind STYLE is looked at.
abbrev pub looked_at : ℕ → List Object → List Object
looked_at type os = if type == 2 && option_map_or is_other (picked as_style os) false then up_to_style os else os

-- An object of a class of flow descriptors stands before STYLE.
abbrev pub is_misplaced : List Object → Bool
is_misplaced os = list_any (λ o. is_flow_class (class_of o)) (ahead_of_style os)

-- the objects of flow descriptors, which stand behind STYLE
abbrev pub flows_in : ℕ → List Object → List Object
flows_in type os = if has_style type then filter is_flow (behind_style os) else []

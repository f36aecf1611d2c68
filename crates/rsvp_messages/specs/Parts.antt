-- The objects of a Path in three parts: those before what is passed on, that, and those behind it.
use Rattle.std.specs.Prelude.{List, [], ◌∷◌, ◌++◌}
use Rattle.rsvp_objects.specs.declared.object.Object.{Object}
use Rattle.rsvp_objects.specs.declared.object.Object.TheVariants as objects
use Rattle.rsvp_objects.specs.Objects.{SpellsObject, spelling}
use Rattle.rsvp_contents.specs.declared.messages.Path.{Path}
use Rattle.rsvp_contents.specs.Written.{if_some, adspec}

-- the object is read again as it was written
abbrev pub IsSpelled : Object → Type 0
IsSpelled o = SpellsObject (spelling o) o

-- whose path it is, and for how long
abbrev pub path_start : Path → List Object
path_start p = objects.Session p.session ∷ objects.Hop p.hop ∷ objects.TimeValues p.time ∷ []

-- what path is wanted
abbrev pub path_wish : Path → List Object
path_wish p =
    if_some p.route objects.ExplicitRoute
    ++ ((objects.LabelRequest p.label_request ∷ [])
    ++ (if_some p.attr objects.SessionAttribute
    ++ if_some p.fast_reroute objects.FastReroute))

-- the sender descriptor
abbrev pub path_sender : Path → List Object
path_sender p =
    (objects.SenderTemplate p.sender ∷ objects.SenderTspec p.tspec ∷ [])
    ++ (adspec p.passing ++ if_some p.recorded objects.RecordRoute)

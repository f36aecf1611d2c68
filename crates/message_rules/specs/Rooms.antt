-- The room that a ResvErr has for the LSPs that it names.
use Rattle.std.specs.Prelude.{◌≤◌, List, length, None}
use Rattle.std.specs.List.{flat_map}
use Rattle.rsvp_objects.specs.Objects.{spelling}
use Rattle.rsvp_contents.specs.Errors.{error_objects}
use Rattle.rsvp_contents.specs.declared.descriptors.ErrorDescriptor.{ErrorDescriptor}

-- A ResvErr that names these LSPs has room for all else that it says.
abbrev pub HaveRoom : List ErrorDescriptor → Type 0
HaveRoom descriptors = length (flat_map spelling (error_objects None descriptors)) ≤ 4040

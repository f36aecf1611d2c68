-- How many bytes objects are written in.
use Rattle.std.specs.Prelude.{ℕ, List, length}
use Rattle.std.specs.List.{flat_map}
use Rattle.rsvp_objects.specs.declared.object.Object.{Object}
use Rattle.rsvp_objects.specs.Objects.{spelling}

abbrev pub spelled_len : List Object → ℕ
spelled_len os = length (flat_map spelling os)

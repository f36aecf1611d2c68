-- The objects before the rest have their lines.
use Rattle.std.proofs.Common.{◌≡◌, ◌++◌, List, length, string_bytes}
use Rattle.std.specs.List.{All, flat_map}
use Rattle.rsvp_objects.specs.Raw.{Raw}
use Rattle.rsvp_objects.specs.declared.object.Object.{Object}
use Rattle.lsr_decode.specs.Decoding.{IsSpelled, bytes_of, object_lines}
use Rattle.lsr_decode.proofs.decoding.object_lines.Given as goal

abbrev pub invariant-loop-rest : goal.invariant-loop-rest
invariant-loop-rest l =
    (objects : List (Raw × Object)) × All IsSpelled objects × (l.bytes ≡ flat_map bytes_of objects ++ l.rest) × (string_bytes l.text ≡ flat_map (object_lines l.fields) objects)

abbrev pub decreases-loop-rest : goal.decreases-loop-rest
decreases-loop-rest l = length l.rest

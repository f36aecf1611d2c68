use Rattle.std.proofs.Common.{◌≡◌, ◌++◌, take}
use Rattle.std.specs.List.{flat_map, All}
use Rattle.rsvp_objects.specs.Objects.{spelling}
use Rattle.rsvp_contents.specs.Written.{before_sender}
use Rattle.rsvp_messages.specs.Parts.{IsSpelled}
use Rattle.rsvp_messages.proofs.parts_writing.put_before_sender.Given as goal

-- what was chosen so far is written
abbrev pub invariant-loop-object : goal.invariant-loop-object
invariant-loop-object l =
    (l.out.items ≡ l.initial.out.items ++ flat_map spelling (before_sender (take l.object-index l.passing)))
    × All IsSpelled (before_sender (take l.object-index l.passing))

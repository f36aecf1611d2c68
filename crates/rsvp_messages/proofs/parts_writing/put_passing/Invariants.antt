use Rattle.std.proofs.Common.{drop, map}
use Rattle.rsvp_objects.specs.declared.object.Object.TheVariants as objects
use Rattle.rsvp_messages.proofs.Appended.{IsWritten}
use Rattle.rsvp_messages.proofs.parts_writing.put_passing.Given as goal

-- what is written, and what the rest is written as
abbrev pub invariant-loop-object : goal.invariant-loop-object
invariant-loop-object l = IsWritten l.initial.out.items l.out.items (map objects.Other l.passing) (map objects.Other (drop l.object-index l.passing))

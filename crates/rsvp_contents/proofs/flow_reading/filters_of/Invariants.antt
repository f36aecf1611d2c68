use Rattle.std.proofs.Common.{◌≡◌, ◌++◌, drop}
use Rattle.rsvp_contents.specs.Errors.{filters_of}
use Rattle.rsvp_contents.proofs.flow_reading.filters_of.Given as goal

-- what was found stands before what the rest says
abbrev pub invariant-loop-object : goal.invariant-loop-object
invariant-loop-object l = filters_of l.objects ≡ l.found ++ filters_of (drop l.object-index l.objects)

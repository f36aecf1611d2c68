use Rattle.std.proofs.Common.{◌≡◌, ◌++◌}
use Rattle.rsvp_contents.specs.Behind.{flows_in}
use Rattle.rsvp_contents.specs.Picking.{parts_in}
use Rattle.rsvp_messages.specs.Joining.{adspecs_in, passing_in}
use Rattle.rsvp_messages.proofs.parts_reading.parts_of.Given as goal

-- what the objects so far say, which of them are passed on, and which are of flow descriptors
abbrev pub invariant-loop-object : goal.invariant-loop-object
invariant-loop-object l =
    record {
      parts : l.parts ≡ parts_in l.kind l.yielded;
      passing : l.passing ≡ passing_in l.kind l.yielded;
      adspecs : l.adspecs.items ≡ adspecs_in l.yielded;
      flows : l.flows.items ≡ flows_in l.kind l.yielded;
    }

-- the ADSPECs so far stand behind the others
abbrev pub invariant-loop-adspec : goal.invariant-loop-adspec
invariant-loop-adspec l = l.passing ≡ l.initial.passing ++ l.yielded

use Rattle.std.proofs.Common.{◌≡◌, ◌≤◌, take}
use Rattle.std.specs.List.{count_by}
use Rattle.rsvp_contents.specs.Flows.{is_flowspec}
use Rattle.rsvp_contents.proofs.flow_reading.flowspecs_in.Given as goal

-- the FLOWSPECs so far
abbrev pub invariant-loop-object : goal.invariant-loop-object
invariant-loop-object l =
    record {
      found : l.count ≡ count_by is_flowspec (take l.object-index l.objects);
      most : l.count ≤ l.object-index;
    }

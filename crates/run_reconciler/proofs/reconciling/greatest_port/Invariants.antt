-- No entry of the segments before this one has a greater port.
use Rattle.std.proofs.Common.{◌≤◌, All, take}
use Rattle.run_reconciler.specs.Walks.{HasPorts}
use Rattle.run_reconciler.proofs.reconciling.greatest_port.Given as goal

abbrev pub invariant-loop-segment : goal.invariant-loop-segment
invariant-loop-segment l = record {
  least : l.least ≤ l.greatest;
  entries : All (HasPorts l.greatest) (take l.segment-index l.segments);
}

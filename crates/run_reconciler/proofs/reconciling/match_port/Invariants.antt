-- The segments before this one call for what was taken of the port's receipts.
use Rattle.std.proofs.Common.{◌≡◌, ◌++◌, length, take}
use Rattle.run_reconciler.specs.Walks.{called_in, mine}
use Rattle.run_reconciler.proofs.reconciling.match_port.Given as goal

abbrev pub invariant-loop-segment : goal.invariant-loop-segment
invariant-loop-segment l = record {
  counted : l.count ≡ length (mine l.port (called_in (take l.segment-index l.segments)));
  taken : mine l.port l.receipts ≡ mine l.port (called_in (take l.segment-index l.segments)) ++ mine l.port l.rest;
}

-- No receipt before this one is the port's.
use Rattle.std.proofs.Common.{◌≡◌, drop}
use Rattle.run_reconciler.specs.Walks.{mine}
use Rattle.run_reconciler.proofs.reconciling.next_of.Given as goal

abbrev pub invariant-loop-i : goal.invariant-loop-i
invariant-loop-i l = mine l.port l.receipts ≡ mine l.port (drop l.i l.receipts)

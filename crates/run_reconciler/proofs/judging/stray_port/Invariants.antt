-- Those before this one are of the ports.
use Rattle.std.proofs.Common.{take}
use Rattle.run_reconciler.specs.Judged.{AreOfPorts}
use Rattle.run_reconciler.proofs.judging.stray_port.Given as goal

abbrev pub invariant-loop-receipt : goal.invariant-loop-receipt
invariant-loop-receipt l = AreOfPorts l.ports (take l.receipt-index l.receipts)

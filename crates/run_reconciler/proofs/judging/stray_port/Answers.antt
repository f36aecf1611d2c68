-- The first receipt that is of none of the ports.
use Rattle.std.proofs.Common.{ap}
use Rattle.std.proofs.lemmas.Bool.{both_ways}
use Rattle.run_journal.specs.declared.mark.Mark.{Mark}
use Rattle.run_reconciler.proofs.OwnPorts.{stray_here}
use Rattle.run_reconciler.proofs.judging.stray_port.Goals as goal

pub returns-then-not-is_port : goal.returns-then-not-is_port
returns-then-not-is_port c =
    stray_here c.args.ports c.args.receipts.now c.loop-receipt.receipt-index c.receipt-item.result c.mark-port.result.port c.loop-receipt-test.true c.receipt-item.is
    (ap (λ (m : Mark). m.port) c.mark-port.ensures) (λ those. both_ways c.is_port.result c.if-not-is_port.true (c.is_port.ensures.1 those)) c.loop-receipt.invariant

-- No receipt before this one has a greater port.
use Rattle.std.proofs.Common.{◌≤◌, All, take}
use Rattle.run_journal.specs.declared.receipt.Receipt.{Receipt}
use Rattle.run_reconciler.proofs.reconciling.greatest_receipt.Given as goal

abbrev pub invariant-loop-receipt : goal.invariant-loop-receipt
invariant-loop-receipt l = All (λ (receipt : Receipt). receipt.mark.port ≤ l.greatest) (take l.receipt-index l.receipts)

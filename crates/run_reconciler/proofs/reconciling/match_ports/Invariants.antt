-- The receipts of the ports before this one are those that their entries call for.
use Rattle.std.proofs.Common.{◌≡◌, ◌<◌, ℕ}
use Rattle.run_reconciler.specs.Walks.{called_in, mine}
use Rattle.run_reconciler.proofs.reconciling.match_ports.Given as goal

abbrev pub invariant-loop-port : goal.invariant-loop-port
invariant-loop-port l = (q : ℕ) → q < l.port → mine q l.receipts ≡ mine q (called_in l.segments)

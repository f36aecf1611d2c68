-- A segment that doesn't go on, a port that differs, and a run.
use Rattle.std.proofs.Common.{inr}
use Rattle.run_reconciler.proofs.Counting.{as_many_receipts}
use Rattle.run_reconciler.proofs.Joining.{gap_apart}
use Rattle.run_reconciler.proofs.Ports.{all_reconciled, odd_apart, odd_run}
use Rattle.run_reconciler.proofs.reconciling.reconcile.Goals as goal

pub returns-in-Err-clause-mismatch : goal.returns-in-Err-clause-mismatch
returns-in-Err-clause-mismatch c is = gap_apart c.args.segments.now c.in-Err.segment c.in-Err.ensures.gap is.0

pub returns-in-Ok-clause-one_run : goal.returns-in-Ok-clause-one_run
returns-in-Ok-clause-one_run c = all_reconciled c.args.segments.now c.args.receipts.now c.in_default.ensures.joined c.in-Ok.ensures.same

pub returns-in-Ok-clause-entries : goal.returns-in-Ok-clause-entries
returns-in-Ok-clause-entries c =
    as_many_receipts c.args.segments.now c.args.receipts.now (all_reconciled c.args.segments.now c.args.receipts.now c.in_default.ensures.joined c.in-Ok.ensures.same)

pub returns-in-Err-match_ports-clause-mismatch : goal.returns-in-Err-match_ports-clause-mismatch
returns-in-Err-match_ports-clause-mismatch c =
    odd_apart c.args.segments.now c.args.receipts.now c.in-Err-match_ports.mismatch (odd_run c.args.segments.now c.args.receipts.now c.in-Err-match_ports.mismatch c.in_default.ensures.joined c.in-Err-match_ports.ensures.odd)

pub returns-in-Err-match_ports-clause-place : goal.returns-in-Err-match_ports-clause-place
returns-in-Err-match_ports-clause-place c =
    inr (odd_run c.args.segments.now c.args.receipts.now c.in-Err-match_ports.mismatch c.in_default.ensures.joined c.in-Err-match_ports.ensures.odd)

-- So many receipts, so many entries.
use Rattle.std.proofs.Common.{◌≡◌, ap, arith, inl, length, refl}
use Rattle.run_reconciler.proofs.Counting.{as_many_receipts}
use Rattle.run_reconciler.specs.Reconciled.{entries_in}
use Rattle.lsr_serve.specs.Told.{reconciled_text}
use Rattle.lsr_serve.proofs.serving.tell_run.Goals as goal

pub returns-in_ok-write-in-Ok : goal.returns-in_ok-write-in-Ok
returns-in_ok-write-in-Ok g c =
    let served = c.args.served.now in
    let run = c.in-Ok.ensures.run in
    let many : c.len-count.result ≡ length (entries_in served.segments.items) = omega (arith, c.len-count.ensures, served.receipts.ok.0, as_many_receipts served.segments.items served.receipts.items run.reconciled) in
    (reconciled_text c.len-count.result, c.in_ok-write-in-Ok.ensures.bytes, inl (run, ap reconciled_text many, refl))

-- One entry more.
use Rattle.std.proofs.Common.{arith, ap}
use Rattle.run_reconciler.specs.declared.reconciling.Walk.{Walk}
use Rattle.run_reconciler.proofs.Joining.{at_more}
use Rattle.run_reconciler.proofs.reconciling.walked.Goals as goal

pub loop-entry-preserved : goal.loop-entry-preserved
loop-entry-preserved c = record {
  at = at_more c.loop-entry.walk c.pass.new.self c.args.segment.now.from c.entries-entries.result.now c.loop-entry.entry-index c.entry-item.result
      c.loop-entry-test.true c.entry-item.is c.pass.ensures.passed c.loop-entry.invariant.at;
  entries = omega (arith, ap (λ (w : Walk). w.entries) c.pass.ensures.passed, c.loop-entry.invariant.entries);
  few = c.pass.ensures.few;
}

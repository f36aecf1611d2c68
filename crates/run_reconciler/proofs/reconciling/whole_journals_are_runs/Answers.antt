use Rattle.run_reconciler.proofs.Whole.{joined_run}
use Rattle.run_reconciler.proofs.reconciling.whole_journals_are_runs.Goals as goal

pub returns : goal.returns
returns c = joined_run c.args.segments.now c.are_segments.ensures

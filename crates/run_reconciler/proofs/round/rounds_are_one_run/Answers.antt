use Rattle.run_reconciler.proofs.Rounds.{rounds_serve}
use Rattle.run_reconciler.proofs.round.rounds_are_one_run.Goals as goal

pub returns : goal.returns
returns c last serves ends round =
    rounds_serve c.args.config.now c.args.ports c.args.segments.now c.args.more.now c.args.receipts.now c.args.more_receipts.now last
    serves c.are_segments.ensures ends round c.are_segments-2.ensures

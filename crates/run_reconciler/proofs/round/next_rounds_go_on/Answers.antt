use Rattle.run_reconciler.proofs.Rounds.{next_round}
use Rattle.run_reconciler.proofs.round.next_rounds_go_on.Goals as goal

pub returns : goal.returns
returns c config before last count run round ends =
    next_round config c.args.ports before last count c.args.segments.now c.args.receipts.now run round c.are_segments.ensures ends

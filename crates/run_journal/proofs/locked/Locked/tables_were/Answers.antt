use Rattle.run_journal.proofs.Showing.{tables_once}
use Rattle.run_journal.proofs.locked.Locked.tables_were.Goals as goal

pub returns : goal.returns
returns g c = tables_once c.args.self.now c.soundness.ensures

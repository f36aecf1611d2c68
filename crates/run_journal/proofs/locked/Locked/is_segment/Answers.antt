use Rattle.run_journal.proofs.Keeping.{kept_segment}
use Rattle.run_journal.proofs.locked.Locked.is_segment.Goals as goal

pub returns : goal.returns
returns g c = kept_segment c.args.self.now c.soundness.ensures

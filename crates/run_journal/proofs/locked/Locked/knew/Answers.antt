use Rattle.run_journal.proofs.Showing.{knew_base, knew_now}
use Rattle.run_journal.proofs.locked.Locked.knew.Goals as goal

pub returns-clause-base : goal.returns-clause-base
returns-clause-base g c = knew_base c.args.self.now c.soundness.ensures

pub returns-clause-state : goal.returns-clause-state
returns-clause-state g c = knew_now c.args.self.now c.soundness.ensures

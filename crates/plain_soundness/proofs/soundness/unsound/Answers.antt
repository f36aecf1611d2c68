use Rattle.plain_soundness.proofs.Verdicts.{broken_where, sound_where}
use Rattle.plain_soundness.proofs.soundness.unsound.Goals as goal

pub returns-clause-sound : goal.returns-clause-sound
returns-clause-sound c = sound_where c.args.router.now c.args.state.now c.first_broken.result c.first_broken.ensures

pub returns-clause-clause : goal.returns-clause-clause
returns-clause-clause c = broken_where c.args.router.now c.args.state.now c.first_broken.result c.first_broken.ensures

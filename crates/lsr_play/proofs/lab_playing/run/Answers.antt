-- What is done next, after what was done so far.
use Rattle.lsr_play.proofs.LabLaws.{tells_from, tells_none, tells_then, tells_to}
use Rattle.lsr_play.proofs.lab_playing.run.Goals as goal

pub loop-turn-init : goal.loop-turn-init
loop-turn-init g c = tells_none _ _ _

pub returns-in_default : goal.returns-in_default
returns-in_default g c = tells_to _ _ _ _ _ _ c.take_left.ensures c.loop-turn.invariant

pub loop-turn-preserved : goal.loop-turn-preserved
loop-turn-preserved g c = tells_then _ _ _ _ _ _ _ c.loop-turn.invariant (tells_from _ _ _ _ _ _ c.take_left.ensures c.in_ok-deliver.ensures)

-- What is done next, after what was done so far.
use Rattle.lsr_play.proofs.LabLaws.{tells_none, tells_then}
use Rattle.lsr_play.proofs.lab_playing.make_many.Goals as goal

pub loop-turn-init : goal.loop-turn-init
loop-turn-init g c = tells_none _ _ _

pub loop-turn-preserved : goal.loop-turn-preserved
loop-turn-preserved g c = tells_then _ _ _ _ _ _ _ c.loop-turn.invariant c.in_ok-make_chosen.ensures

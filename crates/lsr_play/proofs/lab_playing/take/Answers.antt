-- A line that says nothing does nothing.
use Rattle.lsr_play.proofs.LabLaws.{tells_none}
use Rattle.lsr_play.proofs.lab_playing.take.Goals as goal

pub returns-in-None : goal.returns-in-None
returns-in-None g c = tells_none _ _ _

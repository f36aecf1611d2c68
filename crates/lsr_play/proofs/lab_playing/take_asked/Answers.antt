-- A remark does nothing.
use Rattle.lsr_play.proofs.LabLaws.{tells_none}
use Rattle.lsr_play.proofs.lab_playing.take_asked.Goals as goal

pub returns-in-Remark : goal.returns-in-Remark
returns-in-Remark g c = tells_none _ _ _

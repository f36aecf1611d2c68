-- A part that is no address names none.
use Rattle.lsr_lines.proofs.lsps.sender_said.Goals as goal

pub returns-in_default : goal.returns-in_default
returns-in_default c = λ s says. c.in_default.ensures.value s.sender says.0

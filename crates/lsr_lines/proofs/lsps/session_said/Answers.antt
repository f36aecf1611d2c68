-- A part that is no address names none.
use Rattle.lsr_lines.proofs.lsps.session_said.Goals as goal

pub returns-in_default : goal.returns-in_default
returns-in_default c = λ s says. c.in_default.ensures.value s.endpoint says.0

pub returns-in_default-parse : goal.returns-in_default-parse
returns-in_default-parse c = λ s says. c.in_default-parse.ensures.value s.extended says.2

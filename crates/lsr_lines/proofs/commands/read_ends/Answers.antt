-- A word that is no address is no endpoint.
use Rattle.lsr_lines.proofs.commands.read_ends.Goals as goal

pub returns-in_default : goal.returns-in_default
returns-in_default c = λ ends says. c.in_default.ensures.value ends.1 says.1

-- A word that is no prefix, or no link, says no static route.
use Rattle.lsr_lines.proofs.commands.static_said.Goals as goal

pub returns-in_err-prefix : goal.returns-in_err-prefix
returns-in_err-prefix c = rw c.from_residual.ensures (λ route says. c.in_err-prefix.ensures route.0 says.0)

pub returns-in_err-link : goal.returns-in_err-link
returns-in_err-link c = rw c.from_residual-in_err-link.ensures (λ route says. c.in_err-link.ensures route.1 says.1)

-- Where more than one word is left there is no capacity.
use Rattle.lsr_lines.proofs.WordLaws.{no_capacity}
use Rattle.lsr_lines.proofs.commands.read_capacity.Goals as goal

pub returns-in_err-only_word : goal.returns-in_err-only_word
returns-in_err-only_word c =
    rw c.from_residual.ensures (λ capacity says. no_capacity c.args.left capacity c.if-is_none.ensures c.in_err-only_word.ensures says)

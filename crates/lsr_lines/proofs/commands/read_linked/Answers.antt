-- A line that begins with `route` is about nothing else.
use Rattle.std.proofs.Common.{◌≡◌, rules, codes}
use Rattle.lsr_lines.specs.Commands.{words_left}
use Rattle.lsr_lines.proofs.WordLaws.{no_static}
use Rattle.lsr_lines.proofs.commands.read_linked.Goals as goal

pub returns-in_err-prefix : goal.returns-in_err-prefix
returns-in_err-prefix c =
    let first : c.args.word.now ≡ codes "route" = search rules in
    rw c.from_residual-in_err-prefix.ensures (no_static c.args.word.now (words_left c.args.left) first c.in_err-prefix.ensures)

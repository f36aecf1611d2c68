-- What `parse` takes without a sign is what writes flags.
use Rattle.lsr_lines.proofs.WordLaws.{flags_parse}
use Rattle.lsr_lines.proofs.commands.read_flags.Goals as goal

pub returns-in-Err : goal.returns-in-Err
returns-in-Err c = λ flags says. c.in-Err.ensures.value (flags_parse c.args.digits.now flags says)

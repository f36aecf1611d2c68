-- The rows are the commands that there are.
use Rattle.lsr_words.proofs.command.command.Goals as goal

pub returns : goal.returns
returns c = c.with_rows.ensures

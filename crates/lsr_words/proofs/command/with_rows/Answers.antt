-- One more command is added.
use Rattle.lsr_words.specs.Words.{program_words}
use Rattle.lsr_words.proofs.WordLaws.{one_more_row}
use Rattle.lsr_words.proofs.command.with_rows.Goals as goal

pub loop-row-preserved : goal.loop-row-preserved
loop-row-preserved c =
    one_more_row c.loop-row.program c.in_ok-row_command.field-0 c.in_ok-program.program program_words c.args.rows.now c.loop-row.row-index _ c.loop-row-test.true c.loop-row.invariant c.in_ok-row_command.ensures.words c.in_ok-row_command.ensures.local c.in_ok-program.ensures

-- The commands of the rows so far were added.
use Rattle.std.proofs.Common.{◌≡◌, fold, take}
use Rattle.clap.specs.Words.{app_of}
use Rattle.lsr_words.specs.Rows.{add_row}
use Rattle.lsr_words.specs.Words.{program_words}
use Rattle.lsr_words.proofs.command.with_rows.Given as goal

abbrev pub invariant-loop-row : goal.invariant-loop-row
invariant-loop-row l = app_of l.program ≡ fold add_row program_words (take l.row-index l.rows)

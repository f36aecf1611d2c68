-- The words so far were added.
use Rattle.std.proofs.Common.{◌≡◌, false, fold, take}
use Rattle.clap.specs.Words.{app_of, new_app}
use Rattle.clap.specs.declared.builder.command.Command.{out-Command}
use Rattle.lsr_words.specs.Rows.{add_word}
use Rattle.lsr_words.proofs.command.row_command.Given as goal

abbrev pub invariant-loop-word : goal.invariant-loop-word
invariant-loop-word l = record {
  words : app_of l.command ≡ fold add_word (new_app l.row.name.now) (take l.word-index l.row.words.now);
  local : (out-Command l.command).has_globals ≡ false;
}

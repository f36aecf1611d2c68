-- One more word is added.
use Rattle.std.proofs.Common.{◌||◌, ◌∙◌, ap₂}
use Rattle.clap.specs.Built.{AddsArg}
use Rattle.clap.specs.Words.{new_app}
use Rattle.lsr_words.proofs.WordLaws.{one_more_word}
use Rattle.lsr_words.proofs.command.row_command.Goals as goal

pub loop-word-preserved : goal.loop-word-preserved
loop-word-preserved c =
    let adds : AddsArg c.loop-word.command c.argument.result c.in_ok-command.command = c.in_ok-command.ensures in
    record {
      words = one_more_word c.loop-word.command c.in_ok-command.command c.argument.result (new_app c.args.row.now.name.now) c.args.row.now.words.now c.loop-word.word-index _ c.loop-word-test.true c.loop-word.invariant.words c.argument.ensures.rule c.argument.ensures.local adds;
      local = adds.globals ∙ ap₂ (λ a b. a || b) c.loop-word.invariant.local c.argument.ensures.local;
    }

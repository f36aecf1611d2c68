-- What stands after the word is what names the moment.
use Rattle.std.proofs.Common.{sym, ap, ◌∙◌, ◌++◌}
use Rattle.lsr_lines.specs.Numbers.{NamesWhole}
use Rattle.lsr_lines.proofs.LineLaws.{number_after}
use Rattle.lsr_lines.proofs.lines.read_moment_after.Goals as goal

pub returns : goal.returns
returns c =
    let front = c.in_ok-digits.ensures.cases in
    let words = front.1.1 ∙ ap (λ w. c.args.word.now ++ w) (sym front.2) in
    number_after NamesWhole c.args.word.now c.args.line.now c.in_ok-digits.digits.now c.read_whole.result words c.read_whole.ensures

-- What stands after the word is what names the link.
use Rattle.std.proofs.Common.{sym, ap, ◌∙◌, ◌++◌}
use Rattle.lsr_lines.specs.Numbers.{NamesLink}
use Rattle.lsr_lines.proofs.LineLaws.{number_after}
use Rattle.lsr_lines.proofs.lines.read_link_after.Goals as goal

pub returns : goal.returns
returns c =
    let front = c.in_ok-digits.ensures.cases in
    let words = front.1.1 ∙ ap (λ w. c.args.word.now ++ w) (sym front.2) in
    number_after NamesLink c.args.word.now c.args.line.now c.in_ok-digits.digits.now c.read_link.result words c.read_link.ensures

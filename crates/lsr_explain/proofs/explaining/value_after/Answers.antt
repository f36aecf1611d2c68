-- What stands after the code is the value.
use Rattle.std.proofs.Common.{sym, ap, ◌∙◌, ◌++◌}
use Rattle.lsr_explain.proofs.Values.{value_at}
use Rattle.lsr_explain.proofs.explaining.value_after.Goals as goal

pub returns : goal.returns
returns c =
    let front = c.in_ok-digits.ensures.cases in
    let words = front.1.1 ∙ ap (λ w. c.args.code.now ++ w) (sym front.2) in
    value_at c.args.code.now c.args.word.now c.in_ok-digits.digits.now c.read_value.result words c.read_value.ensures

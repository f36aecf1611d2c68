use Rattle.std.proofs.Common.{arith}
use Rattle.lsr_config.specs.Values.{SaysWhole}
use Rattle.lsr_config.proofs.Finding.{same_integer}
use Rattle.lsr_config.proofs.values.whole_in.Goals as goal

pub returns-in_err-number-clause-found : goal.returns-in_err-number-clause-found
unfolding SaysWhole
returns-in_err-number-clause-found c = rw c.from_residual.ensures (λ n says. c.in_err-number.ensures n says.0)

pub returns-then-number-least-clause-found : goal.returns-then-number-least-clause-found
unfolding SaysWhole
returns-then-number-least-clause-found c = λ n says.
    let same = same_integer _ n c.in_ok-number.number says.0 c.in_ok-number.ensures in
    omega (arith, says.1, says.2, same)

pub returns-clause-found : goal.returns-clause-found
unfolding SaysWhole
returns-clause-found c = (c.in_ok-number.ensures, omega arith, omega arith)

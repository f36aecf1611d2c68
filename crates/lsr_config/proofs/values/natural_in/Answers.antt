use Rattle.std.proofs.Common.{w64, rules}
use Rattle.lsr_config.proofs.Finding.{integer_found, natural_found, no_integer}
use Rattle.lsr_config.proofs.values.natural_in.Goals as goal
use mir.Val.{SFits}

pub returns : goal.returns
returns c =
    let number = c.in_ok-as_integer.field-0 in
    let fits : SFits w64 number = search rules in
    integer_found _ number _ c.in_ok-as_integer.ensures (rw c.ok.ensures.value (natural_found number _ fits c.try_from.ensures))

pub returns-in_err-as_integer : goal.returns-in_err-as_integer
returns-in_err-as_integer c = rw c.from_residual.ensures (no_integer _ c.in_err-as_integer.ensures)

use Rattle.std.proofs.Common.{refl}
use Rattle.std.proofs.lemmas.Result.{err_from_is_err_and}
use Rattle.lsr_config.specs.Rules.{IsOfKind, an_address}
use Rattle.lsr_config.specs.Values.{SaysAddress}
use Rattle.lsr_config.proofs.Judging.{missing, needed_judged}
use Rattle.lsr_config.proofs.reading.address_at.Goals as goal

pub returns-in_err-value : goal.returns-in_err-value
returns-in_err-value c =
    let p = err_from_is_err_and c.from_residual.result c.from_residual.ensures.1 in
    rw (p.1, p.2) (missing an_address c.args.key _ _ c.in_err-value.ensures.0 c.in_err-value.ensures.1)

pub returns : goal.returns
unfolding IsOfKind
returns c = needed_judged an_address c.args.key _ SaysAddress (λ v. refl) _ _ _ c.in_ok-value.ensures c.address_in.ensures c.said.ensures

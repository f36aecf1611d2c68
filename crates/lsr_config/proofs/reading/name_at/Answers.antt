use Rattle.std.proofs.Common.{refl}
use Rattle.std.proofs.lemmas.Result.{err_from_is_err_and}
use Rattle.lsr_config.specs.Rules.{IsOfKind, a_name}
use Rattle.lsr_config.specs.Values.{SaysName}
use Rattle.lsr_config.proofs.Judging.{fault_memory, missing, needed_judged}
use Rattle.lsr_config.proofs.reading.name_at.Goals as goal

pub returns-in_err-value : goal.returns-in_err-value
returns-in_err-value c =
    let p = err_from_is_err_and c.from_residual.result c.from_residual.ensures.1 in
    rw (p.1, p.2) (missing a_name c.args.key _ _ c.in_err-value.ensures.0 c.in_err-value.ensures.1)

pub returns-in_err-name : goal.returns-in_err-name
returns-in_err-name c =
    let p = err_from_is_err_and c.from_residual-in_err-name.result c.from_residual-in_err-name.ensures.1 in
    rw (p.1, p.2) (fault_memory _)

pub returns : goal.returns
unfolding IsOfKind
returns c = needed_judged a_name c.args.key _ SaysName (λ v. refl) _ _ _ c.in_ok-value.ensures c.in_ok-name.ensures c.said.ensures

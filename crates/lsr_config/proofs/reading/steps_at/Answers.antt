use Rattle.std.proofs.Common.{refl}
use Rattle.std.proofs.lemmas.Result.{err_from_is_err_and}
use Rattle.lsr_config.specs.Rules.{IsOfKind, some_steps}
use Rattle.lsr_config.specs.Values.{SaysSteps}
use Rattle.lsr_config.proofs.Judging.{fault_memory, missing, needed_judged}
use Rattle.lsr_config.proofs.reading.steps_at.Goals as goal

pub returns-in_err-value : goal.returns-in_err-value
returns-in_err-value c =
    let p = err_from_is_err_and c.from_residual.result c.from_residual.ensures.1 in
    rw (p.1, p.2) (missing some_steps c.args.key _ _ c.in_err-value.ensures.0 c.in_err-value.ensures.1)

pub returns-in_err-steps : goal.returns-in_err-steps
returns-in_err-steps c =
    let p = err_from_is_err_and c.from_residual-in_err-steps.result c.from_residual-in_err-steps.ensures.1 in
    rw (p.1, p.2) (fault_memory _)

pub returns : goal.returns
unfolding IsOfKind
returns c = needed_judged some_steps c.args.key _ SaysSteps (λ v. refl) _ _ _ c.in_ok-value.ensures c.in_ok-steps.ensures c.said.ensures

use Rattle.std.proofs.Common.{refl}
use Rattle.std.proofs.lemmas.Result.{err_from_is_err_and}
use Rattle.lsr_config.specs.Rules.{IsOfKind, a_socket}
use Rattle.lsr_config.specs.Values.{SaysSocket}
use Rattle.lsr_config.proofs.Judging.{missing, needed_judged}
use Rattle.lsr_config.proofs.reading.socket_at.Goals as goal

pub returns-in_err-value : goal.returns-in_err-value
returns-in_err-value c =
    let p = err_from_is_err_and c.from_residual.result c.from_residual.ensures.1 in
    rw (p.1, p.2) (missing a_socket c.args.key _ _ c.in_err-value.ensures.0 c.in_err-value.ensures.1)

pub returns : goal.returns
unfolding IsOfKind
returns c = needed_judged a_socket c.args.key _ SaysSocket (λ v. refl) _ _ _ c.in_ok-value.ensures c.socket_in.ensures c.said.ensures

use Rattle.std.proofs.Common.{Ok, Err, refl, sym}
use Rattle.std.proofs.lemmas.Result.{err_from_is_err_and}
use Rattle.lsr_config.specs.Rules.{IsOfKind, a_socket}
use Rattle.lsr_config.specs.Values.{SaysSocket}
use Rattle.lsr_config.proofs.Judging.{optional_absent, optional_judged}
use Rattle.lsr_config.proofs.reading.check_socket.Goals as goal

pub returns-in_default : goal.returns-in_default
returns-in_default c = (optional_absent a_socket c.args.key _ (sym c.in_default.ensures), tt)

pub returns-in_err-said : goal.returns-in_err-said
unfolding IsOfKind
returns-in_err-said c =
    let p = err_from_is_err_and c.from_residual.result c.from_residual.ensures.1 in
    rw (p.1, p.2) (optional_judged a_socket c.args.key _ SaysSocket (λ v. refl) (λ a. Unit {0}) _ _ (Err c.in_err-said.field-0.0) (sym c.in-Some.ensures) c.socket_in.ensures c.in_err-said.ensures)

pub returns : goal.returns
unfolding IsOfKind
returns c =
    let judged = optional_judged a_socket c.args.key _ SaysSocket (λ v. refl) (λ a. Unit {0}) _ _ (Ok c.in_ok-said.field-0) (sym c.in-Some.ensures) c.socket_in.ensures c.in_ok-said.ensures in
    (judged.0, tt)

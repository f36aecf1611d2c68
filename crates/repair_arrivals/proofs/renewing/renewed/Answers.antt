-- A flow descriptor for a repair comes to what its verdict leads to.
use Rattle.std.proofs.Common.{◌≡◌, IfOk, ap, sym, subst, ◌∙◌}
use Rattle.abstract_router.specs.Reserving as reserving
use Rattle.abstract_router.specs.Reserving.{Failed, Granted, PassedOver}
use Rattle.resv_arrivals.proofs.Hearing.{on_err}
use Rattle.resv_arrivals.specs.Progresses.{fact_at, is_heard}
use Rattle.repair_arrivals.proofs.Renewals.{heard_failed, heard_granted, renewed_by}
use Rattle.repair_arrivals.specs.Progresses.{reached}
use Rattle.repair_arrivals.proofs.renewing.renewed.Goals as goal

pub returns-in-Failed-clause-carried : goal.returns-in-Failed-clause-carried
returns-in-Failed-clause-carried g c =
    let r = g.V.StateView.router c.args.view.now in
    let s = g.V.StateView.state c.args.view.now in
    subst (λ (after : reserving.Progress). IfOk c.failed.result (λ now. reached s now ≡ after))
    (sym (renewed_by r s c.args.progress c.args.asked.now c.args.repair.now (Failed c.in-Failed.error) c.requires.link c.in-Failed.ensures)) c.failed.ensures.carried

pub returns-in-Failed-clause-memory : goal.returns-in-Failed-clause-memory
returns-in-Failed-clause-memory g c =
    let r = g.V.StateView.router c.args.view.now in
    let s = g.V.StateView.state c.args.view.now in
    let asked = c.args.asked.now in
    let p = c.args.progress in
    on_err c.failed.result _
    (ap is_heard (renewed_by r s p asked c.args.repair.now (Failed c.in-Failed.error) c.requires.link c.in-Failed.ensures)
    ∙ heard_failed r asked.resv.now asked.descriptor.now (asked.key, c.args.repair.now) (fact_at s.facts.moment asked) (reached s p) c.in-Failed.error)

pub returns-in-PassedOver-clause-carried : goal.returns-in-PassedOver-clause-carried
returns-in-PassedOver-clause-carried g c =
    let r = g.V.StateView.router c.args.view.now in
    let s = g.V.StateView.state c.args.view.now in
    sym (renewed_by r s c.args.progress c.args.asked.now c.args.repair.now PassedOver c.requires.link c.in-PassedOver.ensures)

pub returns-in-Granted-clause-carried : goal.returns-in-Granted-clause-carried
returns-in-Granted-clause-carried g c =
    let r = g.V.StateView.router c.args.view.now in
    let s = g.V.StateView.state c.args.view.now in
    subst (λ (after : reserving.Progress). IfOk c.granted.result (λ now. reached s now ≡ after))
    (sym (renewed_by r s c.args.progress c.args.asked.now c.args.repair.now Granted c.requires.link c.in-Granted.ensures.0)) c.granted.ensures.carried

pub returns-in-Granted-clause-memory : goal.returns-in-Granted-clause-memory
returns-in-Granted-clause-memory g c =
    let r = g.V.StateView.router c.args.view.now in
    let s = g.V.StateView.state c.args.view.now in
    let asked = c.args.asked.now in
    let p = c.args.progress in
    on_err c.granted.result _
    (ap is_heard (renewed_by r s p asked c.args.repair.now Granted c.requires.link c.in-Granted.ensures.0)
    ∙ heard_granted r asked.resv.now asked.descriptor.now (asked.key, c.args.repair.now) (fact_at s.facts.moment asked) (reached s p))

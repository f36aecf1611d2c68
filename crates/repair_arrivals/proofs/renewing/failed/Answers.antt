-- What is told is what goes back through the bypass.
use Rattle.resv_arrivals.specs.Progresses.{fact_at}
use Rattle.repair_arrivals.proofs.Renewals.{failed_leads}
use Rattle.repair_arrivals.proofs.renewing.failed.Goals as goal

pub returns-clause-carried : goal.returns-clause-carried
returns-clause-carried g c =
    let r = g.V.StateView.router c.args.view.now in
    let s = g.V.StateView.state c.args.view.now in
    let asked = c.args.asked.now in
    failed_leads r s c.args.progress asked.resv.now asked.descriptor.now (asked.key, c.args.repair.now) (fact_at s.facts.moment asked) c.args.error c.in_ok-told.told c.in_ok-with_told.field-0 c.or.result c.or.ensures c.in_ok-told.ensures c.in_ok-with_told.ensures

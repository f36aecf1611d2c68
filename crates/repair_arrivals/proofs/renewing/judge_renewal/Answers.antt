-- What would be granted is, where it fits what its LSP is promised.
use Rattle.std.proofs.Common.{false, true, ap, sym, ◌∙◌}
use Rattle.abstract_router.specs.Assigning.{fits_share}
use Rattle.abstract_router.specs.Reserving.{Failed, PassedOver}
use Rattle.resv_arrivals.proofs.Judging.{style_by_room, granted_within, in_room}
use Rattle.resv_arrivals.specs.Progresses.{fact_at}
use Rattle.repair_arrivals.proofs.renewing.judge_renewal.Goals as goal

pub returns-in-Failed : goal.returns-in-Failed
returns-in-Failed g c =
    let s = g.V.StateView.state c.args.view.now in
    let asked = c.args.asked.now in
    let fact = fact_at s.facts.moment asked in
    style_by_room (g.V.StateView.router c.args.view.now) s asked.key fact (fits_share s asked.key fact) ∙ ap (in_room (fits_share s asked.key fact)) c.in-Failed.ensures

pub returns-in-PassedOver : goal.returns-in-PassedOver
returns-in-PassedOver g c =
    let s = g.V.StateView.state c.args.view.now in
    let asked = c.args.asked.now in
    let fact = fact_at s.facts.moment asked in
    style_by_room (g.V.StateView.router c.args.view.now) s asked.key fact (fits_share s asked.key fact) ∙ ap (in_room (fits_share s asked.key fact)) c.in-PassedOver.ensures

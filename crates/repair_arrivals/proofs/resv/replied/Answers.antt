-- Edits of repairs alone lead to what the flow descriptors led to.
use Rattle.std.proofs.Common.{subst}
use Rattle.abstract_router.specs.Reserving.{resv_replied}
use Rattle.state_views.specs.Drafts.{IsDraft}
use Rattle.state_views.specs.Edits.{edited}
use Rattle.state_views.specs.declared.edits.Edits.{Edits}
use Rattle.repair_arrivals.proofs.resv.replied.Goals as goal

pub returns : goal.returns
returns g c =
    let s = g.V.StateView.state c.args.view.now in
    let p = c.args.progress in
    subst (λ (none : Edits). IsDraft c.resv_replied.result (resv_replied s (record { state = edited (record none { repairs = p.edits }) s; errors = p.errors; first = p.first; has_granted = p.has_granted }) p.first) (g.V.StateView.router c.args.view.now) s)
    c.none-edits.ensures c.resv_replied.ensures

use Rattle.std.proofs.Common.{ap, ◌∙◌}
use Rattle.resv_arrivals.proofs.Reaching.{renewed_leads}
use Rattle.resv_arrivals.specs.Progresses.{fact_at}
use Rattle.resv_arrivals.proofs.granting.renewed.Goals as goal

pub returns : goal.returns
returns g c =
    let both = renewed_leads (g.V.StateView.router c.args.view.now) (g.V.StateView.state c.args.view.now) c.args.progress c.args.asked.now c.in_ok-fact.fact c.set.new.self c.requires.reached c.requires.own c.requires.granted c.requires.renewed
    (c.in_ok-fact.ensures ∙ ap (λ m. fact_at m c.args.asked.now) c.moment.ensures.moment) c.in_ok-set.ensures.ok in
    record { carried = both.0; reached = both.1 }

-- What it asks for takes the place of what the repair kept.
use Rattle.std.proofs.Common.{◌≡◌, Some, ap, refl, true, ◌∙◌}
use Rattle.std.specs.FinMap.Entries.{put}
use Rattle.lsr_facts.specs.Orders.{key_cmp}
use Rattle.lsr_facts.specs.declared.resv_fact.ResvFact.{ResvFact}
use Rattle.resv_arrivals.specs.Progresses.{fact_at}
use Rattle.repair_arrivals.proofs.Renewals.{granted_leads, granted_reached}
use Rattle.repair_arrivals.specs.declared.progress.RepairProgress.{RepairProgress}
use Rattle.repair_arrivals.proofs.renewing.granted.Goals as goal

pub returns : goal.returns
returns g c =
    let r = g.V.StateView.router c.args.view.now in
    let s = g.V.StateView.state c.args.view.now in
    let p = c.args.progress in
    let asked = c.args.asked.now in
    let repair = c.args.repair.now in
    let fact = fact_at s.facts.moment asked in
    let now : RepairProgress = record { edits = c.set.new.self; errors = p.errors; first = p.first; has_granted = true } in
    let same : c.in_ok-resv.resv ≡ fact = c.in_ok-resv.ensures ∙ ap (λ m. fact_at m asked) c.moment.ensures.moment in
    let put_so = c.in_ok-set.ensures.ok ∙ ap (λ (f : ResvFact). put key_cmp asked.key (Some (record repair { resv = f })) p.edits) same in
    record {
      carried = granted_leads s p now asked.key repair fact c.requires.in_order r asked.resv.now asked.descriptor.now put_so refl refl refl;
      reached = granted_reached s p now asked.key repair fact c.requires.in_order put_so c.requires.found c.requires.link c.requires.reached;
    }

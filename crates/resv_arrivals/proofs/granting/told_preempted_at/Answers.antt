use Rattle.std.proofs.Common.{◌≡◌, IsOk, Option, Some, ap, subst, sym, ◌∙◌}
use Rattle.std.specs.FinMap.Entries.{find}
use Rattle.std.specs.Option.{option_copied}
use Rattle.std.specs.Prelude.{IfSome}
use Rattle.sorted_rows.specs.Edits.{edited}
use Rattle.rsvp_bodies.specs.Traffic.{flowspec_rate}
use Rattle.sorted_rows.specs.RowsLaws.{find-all}
use Rattle.lsr_facts.specs.Orders.{key_cmp}
use Rattle.lsr_facts.specs.declared.resv_fact.ResvFact.{ResvFact}
use Rattle.resv_arrivals.proofs.granting.told_preempted_at.Goals as goal

pub told_preempted-requires : goal.told_preempted-requires
told_preempted-requires g c =
    let rows = edited key_cmp c.args.edits.now (g.V.StateView.state c.args.view.now).resvs in
    let found : find key_cmp c.args.key.now rows ≡ Some c.in-Some.fact.now = sym c.resv_now.ensures ∙ ap option_copied c.in-Some.is in
    subst (λ (o : Option ResvFact). IfSome o (λ fact. IsOk (flowspec_rate fact.flowspec))) found
    (find-all key_cmp (λ fact. IsOk (flowspec_rate fact.flowspec)) c.args.key.now rows c.requires)

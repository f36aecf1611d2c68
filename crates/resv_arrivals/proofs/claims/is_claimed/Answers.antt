use Rattle.std.proofs.Common.{◌≡◌, IsOk, Option, Some, ap, subst, sym, ◌∙◌}
use Rattle.std.specs.FinMap.Entries.{find}
use Rattle.std.specs.Option.{option_copied}
use Rattle.std.specs.Prelude.{IfSome}
use Rattle.rsvp_bodies.specs.Traffic.{flowspec_rate}
use Rattle.sorted_rows.specs.RowsLaws.{find-all}
use Rattle.lsr_facts.specs.Orders.{key_cmp}
use Rattle.lsr_facts.specs.declared.resv_fact.ResvFact.{ResvFact}
use Rattle.resv_arrivals.proofs.Claiming.{claimed_as, claimed_none}
use Rattle.resv_arrivals.specs.Progresses.{resvs_at}
use Rattle.resv_arrivals.proofs.claims.is_claimed.Goals as goal

pub takes-requires : goal.takes-requires
takes-requires g c =
    let rows = resvs_at (g.V.StateView.state c.args.view.now) c.args.progress.now in
    let found : find key_cmp c.args.request.now.key rows ≡ Some c.in-Some.fact.now = sym c.resv_now.ensures ∙ ap option_copied c.in-Some.is in
    subst (λ (o : Option ResvFact). IfSome o (λ fact. IsOk (flowspec_rate fact.flowspec))) found
    (find-all key_cmp (λ fact. IsOk (flowspec_rate fact.flowspec)) c.args.request.now.key rows c.requires.reached.rated)

pub returns-in-Some : goal.returns-in-Some
returns-in-Some g c =
    let s = g.V.StateView.state c.args.view.now in
    let request = c.args.request.now in
    let has = claimed_as s.facts.paths (resvs_at s c.args.progress.now) request.key c.in-Some.fact.now request.claim (sym c.resv_now.ensures ∙ ap option_copied c.in-Some.is) c.requires.holding in
    (λ same. has ∙ ap Some (c.takes.ensures.0 same), λ found. c.takes.ensures.1 (let e = sym has ∙ found in cc))

pub returns-in-None : goal.returns-in-None
returns-in-None g c =
    let s = g.V.StateView.state c.args.view.now in
    let none = claimed_none s.facts.paths (resvs_at s c.args.progress.now) c.args.request.now.key (sym c.resv_now.ensures ∙ ap option_copied c.in-None.is) in
    (λ never. absurd (let e = never in cc), λ found. absurd (let e = sym none ∙ found in cc))

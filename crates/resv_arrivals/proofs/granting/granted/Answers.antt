use Rattle.std.proofs.Common.{◌^◌, ◌≤◌, List, Some, sym, subst, ap, ◌∙◌}
use Rattle.std.specs.Option.{unwrap_or}
use Rattle.std.specs.Prelude.{fold}
use Rattle.lsr_facts.specs.declared.key.Key.{Key}
use Rattle.lsr_facts.specs.Admission.{granted, without}
use Rattle.lsr_facts.specs.declared.claim.Request.{Request}
use Rattle.abstract_router.specs.Preempting.{claims_of}
use Rattle.resv_arrivals.proofs.Claiming.{rate_most}
use Rattle.resv_arrivals.proofs.Reaching.{granted_leads}
use Rattle.resv_arrivals.specs.Progresses.{fact_at, resvs_at, told_of}
use Rattle.resv_arrivals.proofs.granting.granted.Goals as goal

pub giving_way-requires-clause-most : goal.giving_way-requires-clause-most
giving_way-requires-clause-most g c = subst (λ (q : Request). q.claim.rate ≤ 2 ^ 50) (sym c.requires.request) (rate_most c.args.asked.now.descriptor.now.flowspec)

pub returns : goal.returns
returns g c =
    let r = g.V.StateView.router c.args.view.now in
    let s = g.V.StateView.state c.args.view.now in
    let p = c.args.progress in
    let request = c.args.request.now in
    let fact = c.in_ok-fact.fact in
    let both = granted_leads r s p c.args.asked.now c.args.is_last request c.in_ok-gone.gone.items fact c.in_ok-errors.errors c.in_ok-edits_with.field-0 c.in_ok-claims.claims c.requires.reached c.requires.own c.requires.granted c.requires.request c.in_ok-gone.ensures
    (c.in_ok-fact.ensures ∙ ap (λ m. fact_at m c.args.asked.now) c.moment.ensures.moment)
    (c.in_ok-errors.ensures ∙ ap (λ (keys : List Key). fold (told_of r (resvs_at s p)) p.errors keys) c.deref.ensures.value)
    c.in_ok-edits_with.ensures
    (λ more. c.in_ok-claims.ensures more ∙ ap (λ (keys : List Key). Some (granted request (without keys (unwrap_or p.claims (claims_of s.facts.paths s.resvs))))) c.deref-2.ensures.value) in
    record { carried = both.0; reached = both.1 }

use Rattle.std.proofs.Common.{◌^◌, ◌≡◌, ◌≤◌, false, true, not, sym, subst, ap, ◌∙◌}
use Rattle.lsr_facts.specs.ClaimLaws.{flowspec_rate-most}
use Rattle.lsr_facts.specs.declared.claim.Request.{Request}
use Rattle.abstract_router.specs.Preempting.{request_of}
use Rattle.abstract_router.specs.Reserving.{verdict_by_rate}
use Rattle.resv_arrivals.proofs.Judging.{as_it_fits, asks_is, renewed_is}
use Rattle.resv_arrivals.specs.Progresses.{fact_at}
use Rattle.resv_arrivals.proofs.verdicts.verdict_in_room.Goals as goal

pub fits-requires-clause-most : goal.fits-requires-clause-most
fits-requires-clause-most g c = subst (λ (q : Request). q.claim.rate ≤ 2 ^ 50) (sym c.request_of-request.ensures.request) (flowspec_rate-most c.args.asked.now.descriptor.now.flowspec c.args.rate c.requires.rate)

pub returns-then-is_claimed : goal.returns-then-is_claimed
returns-then-is_claimed g c =
    let s = g.V.StateView.state c.args.view.now in
    let r = g.V.StateView.router c.args.view.now in
    let asked = c.args.asked.now in
    let fact = fact_at s.facts.moment asked in
    let request = c.request_of-request.result in
    let asks : request ≡ request_of s.facts.paths asked.key fact = asks_is s asked c.args.path.now c.args.rate _ request c.requires.path c.requires.rate c.as_ref.ensures.value c.request_of-request.ensures.request in
    let both = renewed_is r s c.args.progress.now asked request c.requires.reached
    (c.is_none.ensures ∙ ap not c.if-is_none.true) asks c.request_of-request.ensures.setup (c.is_claimed.ensures.0 c.if-is_claimed.true) in
    ((λ i. verdict_by_rate r fact (both.0 i) (c.requires.rate i)) ∙ c.requires.granted, both.1)

pub returns-then-not-fits : goal.returns-then-not-fits
returns-then-not-fits g c =
    let s = g.V.StateView.state c.args.view.now in
    let r = g.V.StateView.router c.args.view.now in
    let asked = c.args.asked.now in
    let request = c.request_of-request.result in
    let asks : request ≡ request_of s.facts.paths asked.key (fact_at s.facts.moment asked) = asks_is s asked c.args.path.now c.args.rate _ request c.requires.path c.requires.rate c.as_ref.ensures.value c.request_of-request.ensures.request in
    as_it_fits r s c.args.progress.now asked c.args.rate request false c.requires.rate c.requires.granted asks (sym c.if-not-fits.true ∙ c.fits.ensures)

pub returns : goal.returns
returns g c =
    let s = g.V.StateView.state c.args.view.now in
    let r = g.V.StateView.router c.args.view.now in
    let asked = c.args.asked.now in
    let request = c.request_of-request.result in
    let asks : request ≡ request_of s.facts.paths asked.key (fact_at s.facts.moment asked) = asks_is s asked c.args.path.now c.args.rate _ request c.requires.path c.requires.rate c.as_ref.ensures.value c.request_of-request.ensures.request in
    (as_it_fits r s c.args.progress.now asked c.args.rate request true c.requires.rate c.requires.granted asks (sym c.if-not-fits.false ∙ c.fits.ensures), asks)

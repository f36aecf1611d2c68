use Rattle.std.proofs.Common.{◌≡◌, ap, ◌∙◌}
use Rattle.lsr_facts.specs.declared.key.Key.{Key}
use Rattle.lsr_facts.specs.Reservations.{expire_resvs, resv_lives_past}
use Rattle.lsr_facts.specs.declared.resv_fact.ResvFact.{ResvFact}
use Rattle.admission.specs.Bandwidths.{claims_of, left_at}
use Rattle.admission.proofs.Matching.{matched_claims_of, same_bandwidth}
use Rattle.admission.proofs.state.Admission.expire.Goals as goal
use Rattle.admission.proofs.state.Admission.expire.Goals.{After-keep_reserving}

-- the claims that are left
left : (c : After-keep_reserving) → c.keep_reserving.new.self ≡ claims_of (expire_resvs c.args.moment c.self.inside.resvs) c.self.inside.claims
left c = c.keep_reserving.ensures ∙ ap (λ resvs. claims_of resvs c.self.inside.claims) c.expire.ensures

pub invariant_of-self : goal.invariant_of-self
unfolding expire_resvs
invariant_of-self c =
    rw (c.expire.ensures, left ((goal.at.invariant_of-self c).After-keep_reserving))
    (matched_claims_of (λ (resv : Key × ResvFact). resv_lives_past c.args.moment resv.1) c.self.inside.resvs c.self.inside.claims c.rows_are_in_order.ensures.sorted c.self.invariant)

pub returns : goal.returns
returns c =
    same_bandwidth _ _ _ _ c.self.inside.limits c.expire.ensures (left ((goal.at.returns c).After-keep_reserving))
    ∙ ap (left_at c.args.moment) c.self.view_is

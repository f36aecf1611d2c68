use Rattle.std.proofs.Common.{List, Option, sym, ap, ◌∙◌}
use Rattle.std.specs.Option.{unwrap_or}
use Rattle.lsr_facts.specs.declared.key.Key.{Key}
use Rattle.lsr_facts.specs.declared.claim.Claim.{Claim}
use Rattle.abstract_router.specs.Preempting.{claims_of}
use Rattle.resv_arrivals.proofs.Claiming.{are_claimed}
use Rattle.resv_arrivals.proofs.claims.changed.Goals as goal

pub returns-in-Some : goal.returns-in-Some
returns-in-Some g c =
    let s = g.V.StateView.state c.args._view.now in
    are_claimed (g.V.StateView.router c.args._view.now) s c.args.progress.now c.requires c.as_slice.result.now
    (c.as_slice.ensures.rows ∙ sym (ap (λ (o : Option (List (Key × Claim))). unwrap_or o (claims_of s.facts.paths s.resvs)) c.in-Some.is) ∙ c.requires.claimed)

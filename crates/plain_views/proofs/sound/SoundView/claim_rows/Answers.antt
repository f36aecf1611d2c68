use Rattle.std.proofs.Common.{length, ◌∙◌, ◌≤◌, List, subst, sym}
use Rattle.lsr_facts.specs.declared.claim.Claim.{Claim}
use Rattle.lsr_facts.specs.declared.key.Key.{Key}
use Rattle.admission.specs.Bandwidths.{AreRated}
use Rattle.plain_views.proofs.Summed.{are_few, are_rated}
use Rattle.plain_views.proofs.sound.SoundView.claim_rows.Goals as goal

pub returns-clause-rated : goal.returns-clause-rated
returns-clause-rated c =
    let state = c.self.inside.known.state.now in
    subst AreRated (sym (c.as_slice.ensures.rows ∙ c.self.invariant.1)) (are_rated state.facts.paths state.resvs)

pub returns-clause-few : goal.returns-clause-few
returns-clause-few c =
    let state = c.self.inside.known.state.now in
    subst (λ (claims : List (Key × Claim)). length claims ≤ 1024) (sym (c.as_slice.ensures.rows ∙ c.self.invariant.1)) (are_few c.self.inside.known.router.now state c.self.invariant.0)

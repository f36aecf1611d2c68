-- The claims are those of reservations that stand.
use Rattle.std.proofs.Common.{◌≡◌, ◌≤◌, List, T, ap, length, subst, sym, ◌∙◌}
use Rattle.std.specs.FinMap.Entries.{is_sorted}
use Rattle.lsr_facts.specs.Orders.{key_cmp}
use Rattle.lsr_facts.specs.declared.claim.Claim.{Claim}
use Rattle.lsr_facts.specs.declared.key.Key.{Key}
use Rattle.abstract_router.specs.ClaimsLaws.{sorted-claims}
use Rattle.abstract_router.specs.Preempting.{claims_of}
use Rattle.admission.specs.Bandwidths.{AreRated}
use Rattle.plain_bandwidth.specs.Limits.{IsWithinAt}
use Rattle.plain_bandwidth.proofs.Reserving as laws
use Rattle.plain_bandwidth.proofs.Telling.{told}
use Rattle.plain_bandwidth.proofs.bandwidth.are_within.Goals as goal

pub are_each_within-requires-clause-sorted : goal.are_each_within-requires-clause-sorted
are_each_within-requires-clause-sorted c =
    let s = c.args.state.now in
    let same : c.as_slice-2.result.now ≡ claims_of s.facts.paths s.resvs = c.as_slice-2.ensures.value ∙ c.in_ok-claims.ensures ∙ ap (claims_of s.facts.paths) c.as_slice.ensures.rows in
    subst (λ (claims : List (Key × Claim)). T (is_sorted key_cmp claims)) (sym same) (sorted-claims s.facts.paths s.resvs c.as_slice.ensures.sorted)

pub are_each_within-requires-clause-rated : goal.are_each_within-requires-clause-rated
are_each_within-requires-clause-rated c =
    let s = c.args.state.now in
    let same : c.as_slice-2.result.now ≡ claims_of s.facts.paths s.resvs = c.as_slice-2.ensures.value ∙ c.in_ok-claims.ensures ∙ ap (claims_of s.facts.paths) c.as_slice.ensures.rows in
    subst AreRated (sym same) (laws.are_rated s.facts.paths s.resvs)

pub are_each_within-requires-clause-few : goal.are_each_within-requires-clause-few
are_each_within-requires-clause-few c =
    let s = c.args.state.now in
    let same : c.as_slice-2.result.now ≡ claims_of s.facts.paths s.resvs = c.as_slice-2.ensures.value ∙ c.in_ok-claims.ensures ∙ ap (claims_of s.facts.paths) c.as_slice.ensures.rows in
    subst (λ (claims : List (Key × Claim)). length claims ≤ 1024) (sym same) (laws.are_few c.args.router.now s c.requires.facts c.as_slice.ensures.sorted c.requires.standing)

pub returns : goal.returns
returns c =
    let s = c.args.state.now in
    let same : c.as_slice-2.result.now ≡ claims_of s.facts.paths s.resvs = c.as_slice-2.ensures.value ∙ c.in_ok-claims.ensures ∙ ap (claims_of s.facts.paths) c.as_slice.ensures.rows in
    told (IsWithinAt c.as_slice-2.result.now) c.are_each_within.result c.as_slice-3.result.now c.args.router.now.links _ c.as_slice-3.ensures.rows c.are_each_within.ensures
    (laws.are_within c.args.router.now s c.as_slice-2.result.now c.as_slice-3.ensures.sorted c.requires.facts c.requires.standing same)

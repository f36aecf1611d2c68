use Rattle.std.proofs.Common.{◌≤◌, ap, arith, length}
use Rattle.std.specs.FinMap.Entries.{put}
use Rattle.lsr_facts.specs.Orders.{key_cmp}
use Rattle.admission.specs.Bandwidths.{AreMatched, Bandwidth}
use Rattle.admission.proofs.Matching.{matched_length, matched_put, row_matched}
use Rattle.admission.proofs.state.Admission.put.Goals as goal
use Rattle.admission.proofs.state.Admission.put.Goals.{After-put}

-- what is put stays matched
matched : (c : After-put) → AreMatched (put key_cmp c.args.key c.args.fact c.self.inside.resvs) (put key_cmp c.args.key c.claim_of-claim.result c.self.inside.claims)
matched c =
    let row = row_matched c.args.key c.args.fact c.args.holding c.claim_of-claim.result c.claim_of-claim.ensures.claim c.requires.holding c.claim_of-claim.ensures.most in
    matched_put c.args.key c.args.fact c.claim_of-claim.result row c.self.inside.resvs c.self.inside.claims c.self.invariant

pub set-requires-clause-room : goal.set-requires-clause-room
set-requires-clause-room c =
    let same = matched_length _ _ (matched ((goal.at.set-requires-clause-room c).After-put)) in
    let room : length (put key_cmp c.args.key c.args.fact c.self.inside.resvs) ≤ 1024 = rw (ap (λ (b : Bandwidth). b.resvs) c.self.view_is) c.requires.room in
    omega (arith, same, room)

pub invariant_of-self : goal.invariant_of-self
invariant_of-self c = rw (c.put.ensures, c.set.ensures) (matched ((goal.at.invariant_of-self c).After-put))

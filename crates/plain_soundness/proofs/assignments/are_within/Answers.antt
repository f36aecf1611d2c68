use Rattle.std.proofs.Common.{◌≤◌, ℕ}
use Rattle.lsr_facts.specs.declared.bypass.Bypass.{Bypass}
use Rattle.bypass_shares.specs.Shares.{assigned_of}
use Rattle.plain_soundness.proofs.Sharing.{within}
use Rattle.plain_bandwidth.proofs.Telling.{told}
use Rattle.plain_soundness.proofs.assignments.are_within.Goals as goal

pub returns : goal.returns
returns c =
    let pairs = c.args.assignments.now in
    told (λ (bypass : ℕ × Bypass). assigned_of bypass.0 pairs ≤ bypass.1.capacity) _ _ _ _ c.as_slice.ensures.rows c.holds_of_all.ensures (within c.args.bypasses.now pairs c.as_slice.ensures.sorted c.requires)

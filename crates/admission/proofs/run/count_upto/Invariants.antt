use Rattle.std.proofs.Common.{◌≡◌, ℕ, ◌<◌, true, get_or}
use Rattle.lsr_facts.specs.declared.key.Key.{Key}
use Rattle.lsr_facts.specs.declared.claim.Claim.{Claim}
use Rattle.admission.proofs.Runs.{comes_upto}
use Rattle.admission.proofs.run.count_upto.Given as goal

-- so many are
abbrev pub invariant-loop-count : goal.invariant-loop-count
invariant-loop-count l = (k : ℕ) (d : Key × Claim) → k < l.count → comes_upto l.session (get_or l.claims k d) ≡ true

-- Within the limit at each priority so far.
use Rattle.std.proofs.Common.{◌≤◌, ◌<◌, ℕ}
use Rattle.lsr_facts.specs.Admission.{granted}
use Rattle.lsr_facts.specs.Claims.{reserved_of}
use Rattle.plain_bandwidth.proofs.bandwidth.is_within.Given as goal

abbrev pub invariant-loop-priority : goal.invariant-loop-priority
invariant-loop-priority l = (p : ℕ) → p < l.priority → reserved_of l.request.claim.link p (granted l.request l.claims) ≤ l.limit

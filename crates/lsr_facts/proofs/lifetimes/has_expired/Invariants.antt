use Rattle.std.proofs.Common.{◌≡◌, drop, not}
use Rattle.std.specs.List.{list_any}
use Rattle.lsr_facts.specs.Lifetimes.{lives_past}
use Rattle.lsr_facts.proofs.lifetimes.has_expired.Given as goal

-- those from here on answer as all of them do
abbrev pub invariant-loop-origin : goal.invariant-loop-origin
invariant-loop-origin l =
    list_any (λ origin. not (lives_past l.moment origin)) (drop l.origin-index l.origins) ≡ list_any (λ origin. not (lives_past l.moment origin)) l.origins

use Rattle.std.proofs.Common.{◌≡◌, ◌++◌, map, suc}
use Rattle.std.specs.List.{filter}
use Rattle.lsr_facts.specs.Admission.{can_give_way, in_turn}
use Rattle.admission.proofs.Turns.{below}
use Rattle.admission.proofs.victims.in_turn.Given as goal

-- those so far, and those of this priority and better ones, are all
abbrev pub invariant-loop-holding : goal.invariant-loop-holding
invariant-loop-holding l = l.keys.items ++ map (λ claim. claim.0) (below (suc l.holding) (filter (can_give_way l.request) l.claims)) ≡ in_turn l.request l.claims

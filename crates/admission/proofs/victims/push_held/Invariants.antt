use Rattle.std.proofs.Common.{◌≡◌, ◌==◌, ◌&&◌, ◌++◌, Bor, map}
use Rattle.std.specs.List.{filter}
use Rattle.lsr_facts.specs.declared.key.Key.{Key}
use Rattle.lsr_facts.specs.Admission.{can_give_way}
use Rattle.lsr_facts.specs.declared.claim.Claim.{Claim}
use Rattle.admission.proofs.victims.push_held.Given as goal

-- of the claims so far those stand behind that pass both tests
abbrev pub invariant-loop-row : goal.invariant-loop-row
invariant-loop-row l =
    l.keys.items
    ≡ l.fn.keys.items ++ map (λ claim. claim.0) (filter (λ claim. can_give_way l.request claim && (claim.1.holding == l.holding)) (map (λ (row : Bor (Key × Claim)). row.now) l.yielded))

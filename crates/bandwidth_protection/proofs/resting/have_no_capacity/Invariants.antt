use Rattle.std.proofs.Common.{◌≡◌, take}
use Rattle.std.specs.List.{AllByRecursion}
use Rattle.bandwidth_protection.proofs.resting.have_no_capacity.Given as goal

-- so many have none
abbrev pub invariant-loop-bypass : goal.invariant-loop-bypass
invariant-loop-bypass l = AllByRecursion (λ bypass. bypass.1.capacity ≡ 0) (take l.bypass-index l.bypasses)

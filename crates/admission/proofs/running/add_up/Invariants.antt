use Rattle.std.proofs.Common.{◌≡◌, ◌++◌, drop, map, take}
use Rattle.admission.specs.Running.{anew}
use Rattle.admission.proofs.running.add_up.Given as goal

-- so many of the sums are added up
abbrev pub invariant-loop-sum : goal.invariant-loop-sum
invariant-loop-sum l = l.sum-items ≡ map (anew l.claims) (take l.sum-index l.fn.sums.items) ++ drop l.sum-index l.fn.sums.items

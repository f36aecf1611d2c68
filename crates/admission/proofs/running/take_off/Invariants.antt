use Rattle.std.proofs.Common.{◌≡◌, ◌++◌, drop, map, take}
use Rattle.admission.specs.Running.{less}
use Rattle.admission.proofs.running.take_off.Given as goal

-- so many of the sums are changed
abbrev pub invariant-loop-sum : goal.invariant-loop-sum
invariant-loop-sum l = l.sum-items ≡ map (less l.touched l.claims) (take l.sum-index l.fn.sums.items) ++ drop l.sum-index l.fn.sums.items

use Rattle.std.proofs.Common.{◌≡◌, ◌++◌, drop, map, take}
use Rattle.admission.specs.Running.{more}
use Rattle.admission.proofs.running.add.Given as goal

-- so many of the sums are changed
abbrev pub invariant-loop-sum : goal.invariant-loop-sum
invariant-loop-sum l = l.sum-items ≡ map (more l.touched l.claims) (take l.sum-index l.fn.sums.items) ++ drop l.sum-index l.fn.sums.items

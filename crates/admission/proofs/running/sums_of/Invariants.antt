use Rattle.std.proofs.Common.{[]}
use Rattle.admission.specs.Running.{AreSums}
use Rattle.admission.proofs.running.sums_of.Given as goal

-- nothing is reserved on those so far
abbrev pub invariant-loop-row : goal.invariant-loop-row
invariant-loop-row l = AreSums [] l.sums.items

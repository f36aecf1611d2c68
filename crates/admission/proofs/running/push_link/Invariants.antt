use Rattle.std.proofs.Common.{[]}
use Rattle.admission.specs.Running.{AreSums}
use Rattle.admission.proofs.running.push_link.Given as goal

-- nothing is reserved on those so far
abbrev pub invariant-loop-priority : goal.invariant-loop-priority
invariant-loop-priority l = AreSums [] l.sums.items

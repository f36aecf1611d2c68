use Rattle.std.proofs.Common.{◌≡◌, take}
use Rattle.abstract_paths.proofs.events.OutputsTryCopy.try_copy.Given as goal

-- so many are copied
abbrev pub invariant-loop-output : goal.invariant-loop-output
invariant-loop-output l = l.items.items ≡ take l.output-index l.output-items

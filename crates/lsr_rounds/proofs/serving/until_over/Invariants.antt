-- So many wires so far.
use Rattle.std.proofs.Common.{◌≡◌, length}
use Rattle.lsr_rounds.proofs.serving.until_over.Given as goal

abbrev pub invariant-loop-link : goal.invariant-loop-link
invariant-loop-link l = length l.all.items ≡ length l.yielded

-- A worker for each link so far.
use Rattle.std.proofs.Common.{◌≡◌, length}
use Rattle.lsr_serve.proofs.run.link_workers.Given as goal

abbrev pub invariant-loop-link : goal.invariant-loop-link
invariant-loop-link g l = length l.workers.items ≡ length l.yielded

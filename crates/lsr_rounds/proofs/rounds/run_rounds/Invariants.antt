-- The rounds so far are one run, and as many workers go on.
use Rattle.std.proofs.Common.{◌≡◌, ◌+◌, length}
use Rattle.lsr_rounds.specs.Ended.{IsSoFar}
use Rattle.lsr_rounds.proofs.rounds.run_rounds.Given as goal

abbrev pub invariant-loop : goal.invariant-loop
invariant-loop g l =
    (goal.iterator-loop g).can_next l.iterator' × (goal.iterator-loop g).is_finite l.iterator' × IsSoFar g.L.CoreName.config (length l.fn.workers.items + 2) l.so_far
    × (length l.workers.items ≡ length l.fn.workers.items)

-- The entries so far are a run to a sound state, and each run of all of them goes on from there.
use Rattle.abstract_router.specs.Soundness.{IsSound}
use Rattle.run_checker.specs.Recorded.{IsRecorded}
use Rattle.run_checker.proofs.Leading.{IsSoFar}
use Rattle.run_checker.proofs.run.run_from.Given as goal

abbrev pub invariant-loop-i : goal.invariant-loop-i
invariant-loop-i l = IsSoFar (IsRecorded l.router) (IsSound l.router) l.fn.base l.entries l.i l.state

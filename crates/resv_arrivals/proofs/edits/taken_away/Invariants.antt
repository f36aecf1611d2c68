use Rattle.std.proofs.Common.{◌≡◌, length}
use Rattle.resv_arrivals.specs.Progresses.{without_edits}
use Rattle.resv_arrivals.proofs.edits.taken_away.Given as goal

-- what is left to do leads where all does
abbrev pub invariant-loop-key : goal.invariant-loop-key
invariant-loop-key l = without_edits l.now l.gone.items ≡ without_edits l.fn.edits l.fn.gone.items

abbrev pub decreases-loop-key : goal.decreases-loop-key
decreases-loop-key l = length l.gone.items

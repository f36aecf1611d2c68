use Rattle.std.proofs.Common.{◌≡◌, length}
use Rattle.state_views.specs.Joining.{joined_rows}
use Rattle.state_views.proofs.edits.joined_rows.Given as goal

abbrev pub invariant-loop-key : goal.invariant-loop-key
invariant-loop-key g l = joined_rows g.K.Ord.cmp l.all l.later.items ≡ joined_rows g.K.Ord.cmp l.fn.rows l.fn.later

abbrev pub decreases-loop-key : goal.decreases-loop-key
decreases-loop-key g l = length l.later.items

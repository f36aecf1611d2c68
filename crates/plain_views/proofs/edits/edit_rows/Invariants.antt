use Rattle.std.proofs.Common.{◌≡◌, length}
use Rattle.sorted_rows.specs.Edits.{edited}
use Rattle.plain_views.proofs.edits.edit_rows.Given as goal

abbrev pub invariant-loop-key : goal.invariant-loop-key
invariant-loop-key g l = edited g.K.Ord.cmp l.edits.items l.table ≡ edited g.K.Ord.cmp l.fn.edits l.fn.table

abbrev pub decreases-loop-key : goal.decreases-loop-key
decreases-loop-key g l = length l.edits.items

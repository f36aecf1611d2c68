use Rattle.std.proofs.Common.{◌≡◌, reverse}
use Rattle.sorted_rows.specs.InTurn.{given, in_turn}
use Rattle.slot_rows.proofs.edits.give_values.Given as goal

-- those that are left, from the last on, make of the table what all of them make of it as it was
abbrev pub invariant-loop-key : goal.invariant-loop-key
invariant-loop-key g l = in_turn (given g.K.Ord.cmp) (reverse l.edits.items) (g.R.EditRows.rows l.table) ≡ in_turn (given g.K.Ord.cmp) (reverse l.fn.edits.items) (g.R.EditRows.rows l.fn.table)

abbrev pub decreases-loop-key : goal.decreases-loop-key
decreases-loop-key g l = goal.left-loop-key g l

use Rattle.std.proofs.Common.{◌≡◌, drop}
use Rattle.sorted_rows.specs.InTurn.{in_turn, taken}
use Rattle.slot_rows.proofs.edits.take_keys.Given as goal

-- those from here on make of the table what all of them make of it as it was
abbrev pub invariant-loop-edit : goal.invariant-loop-edit
invariant-loop-edit g l = in_turn (taken g.K.Ord.cmp) (drop l.edit-index l.edits) (g.R.EditRows.rows l.table) ≡ in_turn (taken g.K.Ord.cmp) l.fn.edits (g.R.EditRows.rows l.fn.table)

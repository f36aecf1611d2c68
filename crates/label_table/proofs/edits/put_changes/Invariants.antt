use Rattle.std.proofs.Common.{◌≡◌, drop}
use Rattle.label_table.specs.Turns.{change_at, put_each}
use Rattle.label_table.proofs.edits.put_changes.Given as goal

-- the labels from here on make of the edits what all of them make of these as they were
abbrev pub invariant-loop-row : goal.invariant-loop-row
invariant-loop-row l =
    put_each (change_at l.was l.now) (drop l.row-index l.rows) l.edits ≡ put_each (change_at l.was l.now) l.rows l.fn.edits

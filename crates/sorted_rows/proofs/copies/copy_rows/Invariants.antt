use Rattle.std.proofs.Common.{◌≡◌, take}
use Rattle.sorted_rows.proofs.copies.copy_rows.Given as goal

abbrev pub invariant-loop-row : goal.invariant-loop-row
invariant-loop-row g l = l.copy.items ≡ take l.row-index l.rows

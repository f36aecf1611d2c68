use Rattle.std.proofs.Common.{◌≡◌, ◌≤◌, take}
use Rattle.std.specs.Prelude.{vec_capacity}
use Rattle.sorted_rows.proofs.reserved.ReservedTableTryCopy.try_copy.Given as goal

-- so many are copied, and there is room for all
abbrev pub invariant-loop-row : goal.invariant-loop-row
invariant-loop-row g l = (l.rows.items ≡ take l.row-index l.row-items) × (g.row.MOST ≤ vec_capacity l.rows)

-- The capacities so far.
use Rattle.std.proofs.Common.{◌≡◌, map, take}
use Rattle.bypass_shares.proofs.capacities.capacities.Given as goal

abbrev pub invariant-loop-row : goal.invariant-loop-row
invariant-loop-row l = l.rows.items ≡ map (λ row. (row.0, row.1.capacity)) (take l.row-index l.bypasses)

use Rattle.std.proofs.Common.{◌≡◌, ◌++◌, drop, map, take}
use Rattle.sorted_rows.proofs.reserved.leave_values.Given as goal

-- of so many rows the values are what is left of them
abbrev pub invariant-loop-row : goal.invariant-loop-row
invariant-loop-row g l =
    l.row-items ≡ map (λ (row : g.row.K.Denot × g.row.V.Denot). (row.0, g.S.Sweep.left l.sweep row.1)) (take l.row-index l.fn.rows.items) ++ drop l.row-index l.fn.rows.items

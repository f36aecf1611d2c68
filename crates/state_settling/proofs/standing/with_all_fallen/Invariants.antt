use Rattle.std.proofs.Common.{◌≡◌, ◌++◌, filter_map, take}
use Rattle.state_settling.specs.Falling.{failing_key}
use Rattle.state_settling.proofs.standing.with_all_fallen.Given as goal

-- so many LSPs are looked at
abbrev pub invariant-loop-place : goal.invariant-loop-place
invariant-loop-place g l =
    let r = g.A.StateView.router l.fn.after in
    let s = g.A.StateView.state l.fn.after in
    l.keys.items ≡ l.fn.keys.items ++ filter_map (λ row. failing_key (g.S.Falling.row_stands r s) (g.S.Falling.rows s) row.0) (take l.place (g.S.Falling.rows (g.V.StateView.state l.fn.before)))

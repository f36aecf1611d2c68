use Rattle.std.proofs.Common.{◌≡◌, ◌++◌, filter_map, take}
use Rattle.state_settling.specs.Falling.{failing_key}
use Rattle.state_settling.proofs.standing.with_fallen.Given as goal

-- so many LSPs are looked at
abbrev pub invariant-loop-edit : goal.invariant-loop-edit
invariant-loop-edit g l =
    let r = g.A.StateView.router l.fn.after in
    let s = g.A.StateView.state l.fn.after in
    l.keys.items ≡ l.fn.keys.items ++ filter_map (λ edit. failing_key (g.S.Falling.row_stands r s) (g.S.Falling.rows s) edit.0) (take l.edit-index l.edits)

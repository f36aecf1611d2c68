use Rattle.std.proofs.Common.{◌≡◌, drop}
use Rattle.state_views.specs.Edits.{edited}
use Rattle.label_table.specs.Turns.{push_change, put_each}
use Rattle.label_table.proofs.tunnels.put_pushes.Given as goal

-- the tunnels from here on make of the changes what all of them make of these as they were
abbrev pub invariant-loop-tunnel : goal.invariant-loop-tunnel
invariant-loop-tunnel g l =
    let s = g.V.StateView.state l.fn.view in
    let change = push_change (g.V.StateView.router l.fn.view) s (edited l.fn.edits s) in
    put_each change (drop l.tunnel-index l.tunnels) l.changes ≡ put_each change l.tunnels l.fn.changes

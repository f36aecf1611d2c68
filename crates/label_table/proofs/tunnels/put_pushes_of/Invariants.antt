use Rattle.std.proofs.Common.{◌≡◌, drop}
use Rattle.state_views.specs.Edits.{edited}
use Rattle.label_table.specs.Turns.{push_change_of, put_each}
use Rattle.label_table.proofs.tunnels.put_pushes_of.Given as goal

-- the LSPs from here on make of the changes what all of them make of these as they were
abbrev pub invariant-loop-lsp : goal.invariant-loop-lsp
invariant-loop-lsp g l =
    let s = g.V.StateView.state l.fn.view in
    let change = push_change_of (g.V.StateView.router l.fn.view) s (edited l.fn.edits s) in
    put_each change (drop l.lsp-index l.lsps) l.changes ≡ put_each change l.lsps l.fn.changes

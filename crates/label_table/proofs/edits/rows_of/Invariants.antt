use Rattle.std.proofs.Common.{◌≡◌, drop}
use Rattle.label_table.specs.Turns.{put_each, row_at, rows_of}
use Rattle.label_table.proofs.edits.rows_of.Given as goal

-- the LSPs from here on make of the rows what all of them make of none
abbrev pub invariant-loop-lsp : goal.invariant-loop-lsp
invariant-loop-lsp g l =
    let r = g.V.StateView.router l.fn.view in
    let s = g.V.StateView.state l.fn.view in
    put_each (row_at r s) (drop l.lsp-index l.touched) l.rows ≡ rows_of r s l.touched

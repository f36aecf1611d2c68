use Rattle.state_views.specs.Edits.{edited}
use Rattle.label_table.proofs.Keeping.{changes_edit}
use Rattle.label_table.proofs.edits.table_edits.Goals as goal

pub returns : goal.returns
returns g c =
    let s = g.V.StateView.state c.args.view.now in
    let asks = c.requires in
    changes_edit (g.V.StateView.router c.args.view.now) s (edited c.args.edits.now s) c.args.changed c.in_ok-touched.touched asks.before.in_order asks.after.paths.in_order asks.labels_before asks.labels_after asks.elsewhere c.in_ok-touched.ensures
    asks.after.resvs asks.after.repairs asks.after.paths.few c.as_slice.result.now c.as_slice-2.result.now c.as_slice.ensures.rows c.as_slice-2.ensures.rows
    c.in_ok-was.was' c.in_ok-now.now c.in_ok-was.ensures c.in_ok-now.ensures c.as_slice-3.result.now c.as_slice-4.result.now c.as_slice-3.ensures.rows c.as_slice-4.ensures.rows
    c.new-changes.result c.put_changes.new.edits c.put_changes-2.new.edits c.new-changes.ensures c.in_ok-put_changes.ensures c.in_ok-put_changes-2.ensures

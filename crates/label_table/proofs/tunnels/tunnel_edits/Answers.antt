use Rattle.label_table.proofs.Pushing.{made_edit}
use Rattle.label_table.proofs.tunnels.tunnel_edits.Goals as goal

pub returns : goal.returns
returns g c =
    made_edit (g.V.StateView.router c.args.view.now) (g.V.StateView.state c.args.view.now) c.args.edits.now c.requires.tunnels c.new.result c.in_ok-bypassed.bypassed c.in_ok-bypassed.ensures c.requires.after.resvs c.requires.after.repairs
    c.as_slice.result.now c.as_slice-2.result.now c.as_slice-3.result.now c.as_slice-4.result.now c.as_slice.ensures.rows c.as_slice-2.ensures.rows c.as_slice-3.ensures.rows c.as_slice-4.ensures.rows
    c.new-changes.result c.put_pushes.new.changes c.put_pushes_of.new.changes c.put_pushes_of-2.new.changes c.put_pushes_of-3.new.changes c.new-changes.ensures c.in_ok-put_pushes.ensures c.in_ok-put_pushes_of.ensures c.in_ok-put_pushes_of-2.ensures c.in_ok-put_pushes_of-3.ensures

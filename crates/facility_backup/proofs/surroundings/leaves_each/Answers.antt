-- One more bypass is as it was.
use Rattle.state_views.specs.Edits.{edited}
use Rattle.facility_backup.proofs.Rows.{leaves_more}
use Rattle.facility_backup.proofs.surroundings.leaves_each.Goals as goal

pub loop-bypass-preserved : goal.loop-bypass-preserved
loop-bypass-preserved g c =
    let r = g.V.StateView.router c.args.view.now in
    let s = g.V.StateView.state c.args.view.now in
    leaves_more r s (edited c.args.edits.now s) c.args.bypasses.now c.loop-bypass.bypass-index _ _ _ c.loop-bypass-test.true
    c.bypass_tunnel_by.ensures (c.is_same_bypass_tunnel.ensures c.if-not-is_same_bypass_tunnel.false) c.bypass_tunnel_by-in-loop-bypass.ensures c.loop-bypass.invariant

-- The traffic of a tunnel that is found is whole.
use Rattle.std.proofs.Common.{sym}
use Rattle.plain_soundness.proofs.Tunnelling.{found_tunnel, whole_pending}
use Rattle.plain_soundness.proofs.tunnels.is_bypass.Goals as goal

pub carries-requires-clause-current : goal.carries-requires-clause-current
carries-requires-clause-current c =
    (found_tunnel c.args.router.now c.args.tunnels.now c.args.bypass.now.1.tunnel c.in-Some.tunnel.now c.requires (sym c.in-Some.ensures.found)).current.whole_tspec

pub carries-requires-clause-pending : goal.carries-requires-clause-pending
carries-requires-clause-pending c =
    let tunnel = c.in-Some.tunnel.now in
    whole_pending c.args.router.now tunnel tunnel.pending (found_tunnel c.args.router.now c.args.tunnels.now c.args.bypass.now.1.tunnel tunnel c.requires (sym c.in-Some.ensures.found)).pending

use Rattle.std.proofs.Common.{sym}
use Rattle.tunnel_commands.proofs.Whole.{whole_current, whole_pending}
use Rattle.tunnel_commands.proofs.refusals.of_new_bypass.Goals as goal

pub carries-requires-clause-current : goal.carries-requires-clause-current
carries-requires-clause-current g c =
    let tunnels = (g.V.StateView.state c.args.view.now).facts.tunnels in
    whole_current (g.V.StateView.router c.args.view.now) c.args.asked.now.tunnel c.in-Some.tunnel.now tunnels c.requires (sym c.in-Some.ensures.tunnel)

pub carries-requires-clause-pending : goal.carries-requires-clause-pending
carries-requires-clause-pending g c =
    let tunnels = (g.V.StateView.state c.args.view.now).facts.tunnels in
    whole_pending (g.V.StateView.router c.args.view.now) c.args.asked.now.tunnel c.in-Some.tunnel.now tunnels c.requires (sym c.in-Some.ensures.tunnel)

use Rattle.std.proofs.Common.{sym}
use Rattle.tunnel_commands.proofs.Taken.{short_change}
use Rattle.tunnel_commands.proofs.commands.changed.Goals as goal

pub with_change-requires-clause-route : goal.with_change-requires-clause-route
with_change-requires-clause-route g c =
    short_change (g.V.StateView.router c.args.view.now) (g.V.StateView.state c.args.view.now).facts c.args.change.now c.in-Some.tunnel.now (sym c.in-Some.ensures.tunnel) c.requires

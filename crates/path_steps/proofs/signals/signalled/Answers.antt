-- Each of the router's tunnels ends elsewhere, and its routes are short.
use Rattle.std.proofs.Common.{subst, sym}
use Rattle.std.specs.List.{AllByRecursion}
use Rattle.lsr_facts.specs.Tunnels.{IsTunnel}
use Rattle.path_steps.proofs.Trying.{each_at}
use Rattle.path_steps.proofs.signals.signalled.Goals as goal

pub tried-requires-clause-tunnel : goal.tried-requires-clause-tunnel
tried-requires-clause-tunnel g c =
    let r = g.V.StateView.router c.args.view.now in
    each_at (IsTunnel r) _ c.loop-row.row-index c.row-item.result
    (subst (AllByRecursion (IsTunnel r)) (sym c.tunnels-tunnels.ensures.tunnels) c.requires.tunnels.each) c.loop-row-test.true c.row-item.is

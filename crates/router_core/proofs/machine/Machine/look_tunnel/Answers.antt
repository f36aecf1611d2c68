-- The tables say of tunnels what the router knows, also while it is cold.
use Rattle.std.proofs.Common.{ap, ◌∙◌}
use Rattle.lsr_facts.specs.declared.router.Router.{Router}
use Rattle.abstract_router.specs.States.{State}
use Rattle.abstract_router.specs.Tables.{look_tunnel}
use Rattle.router_core.specs.Below.labels.TunnelLaws.{look_tunnel-alike}
use Rattle.router_core.proofs.WhileCold.{bypass_tunnels_running}
use Rattle.router_core.proofs.machine.Machine.look_tunnel.Goals as goal

pub returns : goal.returns
returns c =
    let knows = c.tables.ensures in
    let tables = c.tables.result.now in
    let state = c.args.self.now.state in
    let r = c.args.self.now.router in
    c.look_tunnel.ensures
    ∙ ap (λ (r : Router). look_tunnel r tables.state c.args.number) knows.router
    ∙ look_tunnel-alike r tables.state state c.args.number
    (bypass_tunnels_running r tables.state state knows.state)
    (ap (λ (s : State). s.facts.tunnels) knows.state) (ap (λ (s : State). s.resvs) knows.state) (ap (λ (s : State). s.repairs) knows.state)

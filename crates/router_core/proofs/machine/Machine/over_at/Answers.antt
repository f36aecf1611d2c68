-- Bypasses run over what the router knows, also while it is cold.
use Rattle.std.specs.Prelude.{List, ℕ}
use Rattle.std.proofs.Common.{ap, ◌∙◌}
use Rattle.lsr_facts.specs.declared.router.Router.{Router}
use Rattle.lsr_facts.specs.declared.repair.BypassTunnel.{BypassTunnel}
use Rattle.abstract_router.specs.BypassTunnels.{bypass_tunnels_of, over_at}
use Rattle.router_core.proofs.WhileCold.{bypass_tunnels_running}
use Rattle.router_core.proofs.machine.Machine.over_at.Goals as goal

pub returns : goal.returns
returns c =
    let knows = c.tables.ensures in
    let tables = c.tables.result.now in
    let state = c.args.self.now.state in
    let r = c.args.self.now.router in
    c.over_at.ensures
    ∙ ap (λ (r : Router). over_at (bypass_tunnels_of r tables.state) c.args.number) knows.router
    ∙ ap (λ (bypass_tunnels : List (ℕ × BypassTunnel)). over_at bypass_tunnels c.args.number)
    (bypass_tunnels_running r tables.state state knows.state)

use Rattle.std.proofs.Common.{◌∙◌, ℕ, List, Option, Some, None, map, option_to_list, ap}
use Rattle.std.specs.Ordering.{nat_cmp}
use Rattle.sorted_rows.specs.Edits as rows
use Rattle.lsr_facts.specs.Tunnels.{pending_key}
use Rattle.lsr_facts.specs.declared.key.Key.{Key}
use Rattle.lsr_facts.specs.declared.path_fact.PathFact.{PathFact}
use Rattle.lsr_facts.specs.declared.router.Router.{Router}
use Rattle.lsr_facts.specs.declared.tunnel.Tunnel.{Tunnel}
use Rattle.lsr_facts.specs.Changes.{cancelled}
use Rattle.abstract_router.specs.States.{with_facts}
use Rattle.state_views.specs.Edits.{edited}
use Rattle.tunnel_commands.proofs.Leaving.{without_pending}
use Rattle.tunnel_commands.proofs.tunnels.with_cancelled.Goals as goal

pub returns : goal.returns
returns g c =
    let r = g.V.StateView.router c.args.view.now in
    let s = g.V.StateView.state c.args.view.now in
    let of : ℕ × Tunnel = (c.args.number, c.args.tunnel.now) in
    let gone : Router → List (Key × Option PathFact) = λ r. map (λ key. (key, None)) (option_to_list (pending_key r of)) in
    let paths = ◌∙◌ {b = gone c.node.result.router.now} c.in_ok-paths.ensures (ap gone c.node.ensures.router) in
    let left = c.cancel.ensures ∙ ap cancelled c.in_ok-left.ensures in
    (λ i. edited (record (c.none-edits.ensures i) { tunnels = c.in_ok-edits.ensures i; paths = paths i }) s)
    ∙ (λ i. with_facts (record s.facts { tunnels = rows.at_key nat_cmp c.args.number (Some (left i)) s.facts.tunnels; paths = without_pending (pending_key r of) s.facts.paths i }) s)

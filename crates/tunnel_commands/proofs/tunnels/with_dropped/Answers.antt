use Rattle.std.proofs.Common.{◌∙◌, ℕ, List, None, map, option_to_list, ap}
use Rattle.std.specs.FinMap.Entries.{put}
use Rattle.std.specs.Ordering.{nat_cmp}
use Rattle.sorted_rows.specs.Edits as rows
use Rattle.lsr_facts.specs.Orders.{key_cmp}
use Rattle.lsr_facts.specs.Tunnels.{current_key, pending_key}
use Rattle.lsr_facts.specs.declared.key.Key.{Key}
use Rattle.lsr_facts.specs.declared.path_fact.PathFact.{PathFact}
use Rattle.lsr_facts.specs.declared.router.Router.{Router}
use Rattle.lsr_facts.specs.declared.tunnel.Tunnel.{Tunnel}
use Rattle.abstract_router.specs.States.{with_facts}
use Rattle.state_views.specs.Edits.{edited}
use Rattle.tunnel_commands.proofs.Leaving.{without_heads}
use Rattle.tunnel_commands.proofs.tunnels.with_dropped.Goals as goal

pub returns : goal.returns
returns g c =
    let r = g.V.StateView.router c.args.view.now in
    let s = g.V.StateView.state c.args.view.now in
    let of : ℕ × Tunnel = (c.args.number, c.args.tunnel.now) in
    let gone = λ (r : Router). put key_cmp (current_key r of) None (map (λ key. (key, None)) (option_to_list (pending_key r of))) in
    let paths = ◌∙◌ {b = gone c.node.result.router.now} c.in_ok-edits-2.ensures (ap gone c.node.ensures.router) in
    (λ i. edited (record (c.none-edits.ensures i) { tunnels = c.in_ok-edits.ensures i; paths = paths i }) s)
    ∙ ap (λ (left : List (Key × PathFact)). with_facts (record s.facts { tunnels = rows.at_key nat_cmp c.args.number None s.facts.tunnels; paths = left }) s)
    (without_heads (current_key r of) (pending_key r of) s.facts.paths c.requires)

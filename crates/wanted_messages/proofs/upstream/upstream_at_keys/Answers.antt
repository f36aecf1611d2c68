-- What each of some LSPs wants is what is wanted of them all.
use Rattle.std.proofs.Common.{IfOk, List, subst, ◌≡◌}
use Rattle.lsr_facts.specs.declared.upstream.Upstream.{Upstream}
use Rattle.abstract_paths.specs.declared.events.Output.{Output}
use Rattle.abstract_router.specs.UpstreamLaws.{upstream-among}
use Rattle.wanted_messages.proofs.upstream.upstream_at_keys.Goals as goal

pub returns : goal.returns
returns g c =
    let r = g.V.StateView.router c.args.view.now in
    let s = g.V.StateView.state c.args.view.now in
    record {
      rows = subst (λ (wants : List (Upstream × Output)). IfOk c.asked_in_turn.result (λ rows. rows.items ≡ wants)) (upstream-among r s c.args.touched.now c.requires.order c.requires.lsps.paths.in_order) c.asked_in_turn.ensures.rows;
    }

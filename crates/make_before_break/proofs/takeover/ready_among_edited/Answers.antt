-- Those that are found among the numbers that are edited are all.
use Rattle.std.proofs.Common.{Option, ◌∙◌}
use Rattle.std.specs.FinMap.Entries.{find}
use Rattle.std.specs.Option.{option_and_then, option_or}
use Rattle.std.specs.Ordering.{nat_cmp}
use Rattle.lsr_facts.specs.declared.tunnel.Tunnel.{Tunnel}
use Rattle.state_views.specs.Edits.{edited}
use Rattle.make_before_break.specs.Switching.{ready_at}
use Rattle.make_before_break.specs.SwitchingLaws.{edited_ready}
use Rattle.make_before_break.proofs.takeover.ready_among_edited.Goals as goal

pub returns : goal.returns
returns g c =
    let r = g.V.StateView.router c.args.view.now in
    let s = g.V.StateView.state c.args.view.now in
    let e = c.args.edits.now in
    c.into_rows.ensures.rows
    ∙ edited_ready r s e c.in_ok-ready.ready c.requires.order c.into_rows.ensures.sorted c.requires.none (λ q.
    c.in_ok-ready.ensures q
    ∙ (λ i. option_or (option_and_then (λ (row : Option Tunnel). ready_at r (edited e s) q) (find nat_cmp q (c.as_slice.ensures.rows i))) (find nat_cmp q (c.new.ensures i))))

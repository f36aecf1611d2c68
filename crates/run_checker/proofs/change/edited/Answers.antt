-- The edits, and then those of the moments.
use Rattle.std.proofs.Common.{◌≡◌, ap, ◌∙◌}
use Rattle.sorted_rows.specs.Edits as rows
use Rattle.lsr_facts.specs.Orders.{item_cmp}
use Rattle.lsr_facts.specs.Upstreams.{upstream_cmp}
use Rattle.abstract_router.specs.States.{State}
use Rattle.state_views.specs.Edits.{edited}
use Rattle.run_checker.proofs.change.edited.Goals as goal

pub returns : goal.returns
returns c =
    let e = c.args.edits in
    let a = c.in_ok-after.after in
    let is : a ≡ edited e.edits c.args.state = c.in_ok-after.ensures in
    let sent : c.edit_moments.new.moments ≡ rows.edited item_cmp e.moments a.facts.sent = c.in_ok-edit_moments.ensures in
    let upstream : c.edit_rows.new.table ≡ rows.edited upstream_cmp e.upstream a.sent_upstream = c.in_ok-edit_rows.ensures in
    (λ i. record a { facts = record a.facts { sent = sent i }; sent_upstream = upstream i })
    ∙ ap (λ (t : State). record t { facts = record t.facts { sent = rows.edited item_cmp e.moments t.facts.sent }; sent_upstream = rows.edited upstream_cmp e.upstream t.sent_upstream }) is

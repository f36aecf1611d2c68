use Rattle.lsr_facts.specs.OrderLaws.{key_total}
use Rattle.sorted_rows.specs.EditLaws.{is_sorted-edited}
use Rattle.state_views.specs.Edits.{edited}
use Rattle.state_settling.specs.RepairsLaws.{all_repairs}
use Rattle.lsr_facts.specs.Orders.{key_cmp}
use Rattle.state_settling.proofs.repair.new_repairs.Goals as goal

pub returns : goal.returns
returns g c =
    let r = g.V.StateView.router c.args.view.now in
    let s = g.V.StateView.state c.args.view.now in
    let e = c.args.edits.now in
    all_repairs r (edited e s) c.in_ok-repairs.repairs (is_sorted-edited key_cmp key_total e.resvs s.resvs c.requires.order) c.as_slice.ensures.sorted c.in_ok-repairs.ensures

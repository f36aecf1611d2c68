-- One LSP more is asked.
use Rattle.lsr_facts.specs.OrderLaws.{key_exact, key_total}
use Rattle.lsr_facts.specs.Orders.{key_cmp}
use Rattle.make_before_break.proofs.Asking.{one_asked}
use Rattle.bandwidth_protection.specs.Narrowing.{open_wish}
use Rattle.bandwidth_protection.proofs.opening.with_wishes.Goals as goal

pub loop-row-preserved : goal.loop-row-preserved
loop-row-preserved g c =
    one_asked key_cmp key_total key_exact c.args.rows.now c.loop-row.row-index (open_wish (g.A.StateView.router c.args.after.now) (g.A.StateView.state c.args.after.now) c.args.opening.now.kept c.args.opening.now.left) c.args.wishes
    c.loop-row.all c.in_ok-all.all c.row-item.result c.loop-row-test.true c.row-item.is c.in_ok-all.ensures c.loop-row.invariant

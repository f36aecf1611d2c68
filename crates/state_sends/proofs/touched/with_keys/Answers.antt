use Rattle.state_sends.proofs.Touching.{one_more}
use Rattle.state_sends.proofs.touched.with_keys.Goals as goal

pub loop-row-preserved : goal.loop-row-preserved
loop-row-preserved g c =
    one_more c.args.rows.now c.loop-row.row-index c.row-item.result c.args.keys c.loop-row.all c.set.new.self c.loop-row-test.true c.row-item.is c.in_ok-set.ensures.ok c.loop-row.invariant

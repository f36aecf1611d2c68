-- The LSP of one item more is put among the keys.
use Rattle.state_sends.proofs.Touching.{one_item}
use Rattle.state_sends.proofs.touched.with_lsps_of.Goals as goal

pub loop-item-preserved : goal.loop-item-preserved
loop-item-preserved g c =
    one_item g.I.KeptAlive.of c.args.items.now c.loop-item.item-index c.item-item.result c.lsp.result c.args.keys c.loop-item.all c.set.new.self c.loop-item-test.true c.item-item.is c.lsp.ensures c.in_ok-set.ensures.ok c.loop-item.invariant

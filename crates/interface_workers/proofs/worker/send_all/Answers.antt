-- One frame more is given to the wire, or the wire takes no more.
use Rattle.interface_workers.proofs.Sendings.{sent_first, sent_more}
use Rattle.interface_workers.proofs.worker.send_all.Goals as goal

pub returns-then-is_spent : goal.returns-then-is_spent
returns-then-is_spent g c = sent_first c.args.frames.now c.loop-frame.frame-index _ _ (c.is_spent.ensures.spent c.if-is_spent.true) c.loop-frame.invariant

pub loop-frame-preserved : goal.loop-frame-preserved
loop-frame-preserved g c =
    sent_more c.args.frames.now c.loop-frame.frame-index c.frame-item.result c.as_slice.result.now c.send.result c.loop-frame.invariant.0 _ _ _
    c.loop-frame-test.true c.frame-item.is c.as_slice.ensures.bytes c.loop-frame.invariant.1 c.loop-frame.invariant.2 c.send.ensures

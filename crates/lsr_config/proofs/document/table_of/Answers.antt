use Rattle.std.proofs.Common.{sym, ◌∙◌}
use Rattle.lsr_config.proofs.Placing.{in_order-nil, in_order-more}
use Rattle.lsr_config.proofs.document.table_of.Goals as goal

pub loop-key-init : goal.loop-key-init
loop-key-init g c = c.new-table.ensures ∙ sym (in_order-nil g.K.Ord.cmp)

pub loop-key-preserved : goal.loop-key-preserved
loop-key-preserved g c = c.in_ok-set.ensures.ok ∙ in_order-more g.K.Ord.cmp c.loop-key.yielded (c.in-Some.key, c.in-Some.value) _ c.loop-key.invariant

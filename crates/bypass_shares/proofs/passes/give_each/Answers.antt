-- One turn more.
use Rattle.std.proofs.Common.{◌∙◌}
use Rattle.lsr_facts.specs.Orders.{key_cmp}
use Rattle.bypass_shares.specs.Merged.{with_rows}
use Rattle.bypass_shares.specs.Shares.{new_for}
use Rattle.bypass_shares.proofs.AllTurns.{next-turn}
use Rattle.bypass_shares.proofs.passes.give_each.Goals as goal

pub loop-wish-preserved : goal.loop-wish-preserved
loop-wish-preserved c = λ capacity are_left.
    let kept = c.args.kept.now in
    let so_far = c.loop-wish.invariant capacity are_left in
    let turn = c.in_ok-give_next.ensures capacity so_far.0 in
    (turn.0, next-turn capacity (new_for key_cmp capacity) (with_rows key_cmp c.loop-wish.made kept) (with_rows key_cmp c.give_next.new.made kept) c.args.wishes.now c.loop-wish.wish-index c.wish-item.result c.loop-wish-test.true c.wish-item.is turn.1 ∙ so_far.1)

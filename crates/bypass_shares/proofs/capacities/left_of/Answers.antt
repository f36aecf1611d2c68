-- What is left at first, and beside one row more.
use Rattle.std.proofs.Common.{ap, ◌∙◌, map}
use Rattle.lsr_facts.specs.Orders.{key_cmp}
use Rattle.bypass_shares.specs.Shares.{capacity_in}
use Rattle.bypass_shares.proofs.Taking.{capacities_left, left_more-slice}
use Rattle.bypass_shares.proofs.capacities.left_of.Goals as goal

pub loop-row-init : goal.loop-row-init
loop-row-init c = λ number.
    capacities_left c.in_ok-left.left c.args.bypasses.now number (c.in_ok-left.ensures ∙ ap (map (λ row. (row.0, row.1.capacity))) c.as_slice.ensures.rows)

pub loop-row-preserved : goal.loop-row-preserved
loop-row-preserved c =
    left_more-slice key_cmp (capacity_in c.args.bypasses.now) c.loop-row.left c.take.new.left c.args.in_use.now c.as_slice-row-items.result.now c.loop-row.row-index _ c.as_slice-row-items.ensures.rows c.requires c.loop-row-test.true c.loop-row.invariant c.in_ok-take.ensures

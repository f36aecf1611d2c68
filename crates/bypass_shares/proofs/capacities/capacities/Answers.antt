-- The numbers are those of the bypasses.
use Rattle.std.proofs.Common.{map, ap, ◌∙◌}
use Rattle.std.proofs.lemmas.List.{take_all}
use Rattle.bypass_shares.proofs.Taking.{capacities_in_order}
use Rattle.bypass_shares.proofs.capacities.capacities.Goals as goal

pub from_rows-requires : goal.from_rows-requires
from_rows-requires c =
    capacities_in_order c.loop-row.rows.items c.args.bypasses.now (c.loop-row.invariant ∙ ap (map (λ row. (row.0, row.1.capacity))) (take_all c.loop-row.row-index c.args.bypasses.now c.loop-row-test.false)) c.requires

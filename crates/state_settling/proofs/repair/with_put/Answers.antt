use Rattle.std.proofs.Common.{T, List, Option, ap, map, subst, sym, ◌∙◌}
use Rattle.std.specs.FinMap.Entries.{is_sorted}
use Rattle.lsr_facts.specs.Orders.{key_cmp}
use Rattle.lsr_facts.specs.declared.key.Key.{Key}
use Rattle.lsr_facts.specs.declared.repair.Repair.{Repair}
use Rattle.abstract_router.specs.Repairing.{put_repair}
use Rattle.state_settling.specs.RepairsLaws.{sorted_put}
use Rattle.state_settling.proofs.repair.with_put.Goals as goal

pub from_rows-requires : goal.from_rows-requires
from_rows-requires c =
    let all = c.in_ok-puts.ensures ∙ ap (map put_repair) c.into_rows.ensures.rows in
    subst (λ (rows : List (Key × Option Repair)). T (is_sorted key_cmp rows)) (sym all) (sorted_put c.args.repairs c.into_rows.ensures.sorted)

use Rattle.sorted_rows.specs.RowsLaws.{is_sorted-filter}
use Rattle.sorted_rows.proofs.laws.retain_keeps_order.Goals as goal

pub returns : goal.returns
returns g c = is_sorted-filter g.K.Ord.cmp

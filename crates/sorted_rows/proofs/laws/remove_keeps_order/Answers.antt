use Rattle.std.specs.FinMap.Entries.{is_sorted-where_key}
use Rattle.sorted_rows.proofs.laws.remove_keeps_order.Goals as goal

pub returns : goal.returns
returns g c = λ key. is_sorted-where_key g.K.Ord.cmp _

use Rattle.std.specs.FinMap.Entries.{is_sorted-put}
use Rattle.sorted_rows.proofs.laws.set_keeps_order.Goals as goal

pub returns : goal.returns
returns g c = is_sorted-put g.K.Ord.cmp g.met.K.Ord.total

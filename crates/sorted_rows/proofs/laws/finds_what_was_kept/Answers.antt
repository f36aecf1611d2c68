use Rattle.sorted_rows.specs.RowsLaws.{find-filter}
use Rattle.sorted_rows.proofs.laws.finds_what_was_kept.Goals as goal

pub returns : goal.returns
returns g c = λ passes key rows alike in_order. find-filter g.K.Ord.cmp g.met.K.Ord.total passes key alike rows in_order

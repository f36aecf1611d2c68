use Rattle.sorted_rows.specs.RowsLaws.{find-before}
use Rattle.sorted_rows.proofs.laws.finds_no_key_below_the_first.Goals as goal

pub returns : goal.returns
returns g c = find-before g.K.Ord.cmp g.met.K.Ord.total

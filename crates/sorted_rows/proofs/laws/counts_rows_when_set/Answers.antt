use Rattle.std.specs.FinMap.Entries.{length-put}
use Rattle.sorted_rows.proofs.laws.counts_rows_when_set.Goals as goal

pub returns : goal.returns
returns g c = length-put g.K.Ord.cmp g.met.K.Ord.total

use Rattle.sorted_rows.specs.RowsLaws.{find-removed_same, find-removed_other}
use Rattle.sorted_rows.proofs.laws.finds_no_removed_key.Goals as goal

pub returns-clause-same : goal.returns-clause-same
returns-clause-same g c = find-removed_same g.K.Ord.cmp g.met.K.Ord.total

pub returns-clause-others : goal.returns-clause-others
returns-clause-others g c = λ key q. find-removed_other g.K.Ord.cmp g.met.K.Ord.total q key

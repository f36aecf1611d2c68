use Rattle.sorted_rows.specs.RowsLaws.{find-put_same, find-put_other}
use Rattle.sorted_rows.proofs.laws.finds_what_was_set.Goals as goal

pub returns-clause-same : goal.returns-clause-same
returns-clause-same g c = find-put_same g.K.Ord.cmp g.met.K.Ord.total

pub returns-clause-others : goal.returns-clause-others
returns-clause-others g c = λ key q. find-put_other g.K.Ord.cmp g.met.K.Ord.total q key

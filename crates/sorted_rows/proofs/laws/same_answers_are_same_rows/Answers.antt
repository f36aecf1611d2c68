use Rattle.std.specs.FinMap.Entries.{same_entries}
use Rattle.sorted_rows.proofs.laws.same_answers_are_same_rows.Goals as goal

pub returns : goal.returns
returns g c = λ rows others exact. same_entries g.K.Ord.cmp g.met.K.Ord.total exact rows others

use Rattle.std.proofs.lemmas.List.Elements.{All-from_recursion}
use Rattle.std.specs.FinMap.Entries.{find}
use Rattle.std.proofs.Common.{◌≡◌, Some}
use Rattle.sorted_rows.specs.RowsLaws.{all_found}
use Rattle.sorted_rows.proofs.laws.finds_each_row.Goals as goal

pub returns : goal.returns
returns g c = λ rows in_order. All-from_recursion (λ row. find g.K.Ord.cmp row.0 rows ≡ Some row.1) rows (all_found g.K.Ord.cmp g.met.K.Ord.total rows in_order)

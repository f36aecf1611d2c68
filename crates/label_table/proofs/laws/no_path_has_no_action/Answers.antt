use Rattle.label_table.specs.RowLaws.{table-no_path}
use Rattle.label_table.proofs.laws.no_path_has_no_action.Goals as goal

pub returns : goal.returns
returns c = table-no_path

use Rattle.label_table.specs.RowLaws.{table-alike}
use Rattle.label_table.proofs.laws.the_table_stands_on_lsps_and_bypasses.Goals as goal

pub returns : goal.returns
returns c = table-alike

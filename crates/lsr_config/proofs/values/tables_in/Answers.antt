use Rattle.lsr_config.proofs.Finding.{tables_judged, no_tables}
use Rattle.lsr_config.proofs.values.tables_in.Goals as goal

pub returns : goal.returns
returns c = tables_judged _ _ _ c.in_ok-as_array.ensures (rw c.as_slice.ensures.value at c.only_tables.ensures)

pub returns-in_err-as_array : goal.returns-in_err-as_array
returns-in_err-as_array c = rw c.from_residual.ensures (no_tables _ c.in_err-as_array.ensures)

use Rattle.lsr_config.proofs.Finding.{no_labels}
use Rattle.lsr_config.proofs.values.labels_in.Goals as goal

pub returns-in_err-as_array : goal.returns-in_err-as_array
returns-in_err-as_array c = rw c.from_residual.ensures (no_labels _ c.in_err-as_array.ensures)

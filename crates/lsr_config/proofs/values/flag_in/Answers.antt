use Rattle.lsr_config.proofs.Finding.{flag_found}
use Rattle.lsr_config.proofs.values.flag_in.Goals as goal

pub returns : goal.returns
returns c = rw c.as_bool.ensures (flag_found _)

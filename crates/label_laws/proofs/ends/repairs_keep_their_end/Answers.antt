-- A bypass that is known still is the same, and so is the endpoint of its tunnel.
use Rattle.label_laws.proofs.KeptEnds.{keeps_end}
use Rattle.label_laws.proofs.ends.repairs_keep_their_end.Goals as goal

pub returns : goal.returns
returns c = keeps_end

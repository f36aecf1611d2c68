-- A reservation goes where another is granted, and that is told; else it stands.
use Rattle.router_laws.proofs.BandwidthLost.{loss_told}
use Rattle.router_laws.proofs.errors.who_loses_bandwidth_is_told.Goals as goal

pub returns : goal.returns
returns c = loss_told

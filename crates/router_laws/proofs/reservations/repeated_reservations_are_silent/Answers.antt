-- Each descriptor leaves the state as it is, and so does what follows.
use Rattle.router_laws.proofs.Repeating.{repeated_is_silent}
use Rattle.router_laws.proofs.reservations.repeated_reservations_are_silent.Goals as goal

pub returns : goal.returns
returns c = repeated_is_silent

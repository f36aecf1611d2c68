-- What is known is not changed, and moments stay where nothing is sent.
use Rattle.router_laws.proofs.Unchanged.{relay_rest}
use Rattle.router_laws.proofs.stays.relays_change_nothing.Goals as goal

pub returns : goal.returns
returns c = relay_rest

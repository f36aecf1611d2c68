-- A restart is silent.
use Rattle.router_laws.proofs.Unchanged.{restart_rest}
use Rattle.router_laws.proofs.stays.restarts_lose_what_messages_set_up.Goals as goal

pub returns : goal.returns
returns c = restart_rest

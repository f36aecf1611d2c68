-- A path that begins here has no origin to tell, and what is noted of a tunnel is wanted nowhere.
use Rattle.router_laws.proofs.OwnLsps.{own_error_noted}
use Rattle.router_laws.proofs.tunnels.errors_at_the_head_are_noted.Goals as goal

pub returns : goal.returns
returns c = own_error_noted

-- Whether its LSP is a head's is the first test of a Path.
use Rattle.router_laws.proofs.OwnLsps.{own_path_refused}
use Rattle.router_laws.proofs.tunnels.a_path_for_a_heads_key_is_refused.Goals as goal

pub returns : goal.returns
returns c = own_path_refused

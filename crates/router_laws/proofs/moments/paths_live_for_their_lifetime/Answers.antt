-- A Path that is done was taken: its origin is put among the path's.
use Rattle.router_laws.proofs.Repeats.{path_renews}
use Rattle.router_laws.proofs.moments.paths_live_for_their_lifetime.Goals as goal

pub returns : goal.returns
returns c = path_renews

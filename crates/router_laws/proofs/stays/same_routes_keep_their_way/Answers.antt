-- The way is that of the path, without a look at the links.
use Rattle.router_laws.proofs.Unchanged.{way_kept}
use Rattle.router_laws.proofs.stays.same_routes_keep_their_way.Goals as goal

pub returns : goal.returns
returns c = way_kept

-- A path with an origin that lives past the moment lives on.
use Rattle.router_laws.proofs.Ticks.{path_stays}
use Rattle.router_laws.proofs.moments.refreshed_paths_stay.Goals as goal

pub returns : goal.returns
returns c = path_stays

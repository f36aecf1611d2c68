-- Each row of what is wanted is of one LSP.
use Rattle.abstract_router.specs.UpstreamLaws.{upstream-elsewhere}
use Rattle.abstract_router.specs.WantedLaws.{items-elsewhere}
use Rattle.router_laws.proofs.stays.what_is_wanted_comes_of_its_lsps.Goals as goal

pub returns-clause-paths : goal.returns-clause-paths
returns-clause-paths c = items-elsewhere

pub returns-clause-resvs : goal.returns-clause-resvs
returns-clause-resvs c = upstream-elsewhere

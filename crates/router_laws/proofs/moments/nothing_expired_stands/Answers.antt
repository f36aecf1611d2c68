-- A moment that is done leaves the origins, the reservations and the repairs that live past it, and a reservation that is
-- repaired in its step lives past it too.
use Rattle.router_laws.proofs.Ticks.{no_repair_expired, no_resv_expired, none_expired, path_goes}
use Rattle.router_laws.proofs.moments.nothing_expired_stands.Goals as goal

pub returns-clause-none : goal.returns-clause-none
returns-clause-none c = none_expired

pub returns-clause-resvs : goal.returns-clause-resvs
returns-clause-resvs c = no_resv_expired

pub returns-clause-repairs : goal.returns-clause-repairs
returns-clause-repairs c = no_repair_expired

pub returns-clause-gone : goal.returns-clause-gone
returns-clause-gone c = path_goes

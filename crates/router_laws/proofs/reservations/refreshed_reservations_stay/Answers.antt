-- It lives on, and stands on its path as before.
use Rattle.router_laws.proofs.Staying.{refreshed_repair_stays, refreshed_stays}
use Rattle.router_laws.proofs.reservations.refreshed_reservations_stay.Goals as goal

pub returns-clause-resvs : goal.returns-clause-resvs
returns-clause-resvs c = refreshed_stays

pub returns-clause-repairs : goal.returns-clause-repairs
returns-clause-repairs c = refreshed_repair_stays

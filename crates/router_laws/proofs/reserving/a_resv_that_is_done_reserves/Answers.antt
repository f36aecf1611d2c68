-- A descriptor is granted, its LSP isn't given up, and its reservation stands.
use Rattle.router_laws.proofs.EachReserved.{each_reserved}
use Rattle.router_laws.proofs.ResvDone.{done_reserves, some_reserved}
use Rattle.router_laws.proofs.reserving.a_resv_that_is_done_reserves.Goals as goal

pub returns-clause-one : goal.returns-clause-one
returns-clause-one c = done_reserves

pub returns-clause-some : goal.returns-clause-some
returns-clause-some c = some_reserved

pub returns-clause-each : goal.returns-clause-each
returns-clause-each c = each_reserved

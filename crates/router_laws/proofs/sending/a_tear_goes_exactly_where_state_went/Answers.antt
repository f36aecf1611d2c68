-- Each row that others lack has its tear, and nothing else that is sent is one.
use Rattle.router_laws.proofs.Exactly.{path_torn, resv_torn, tears_exactly}
use Rattle.router_laws.proofs.sending.a_tear_goes_exactly_where_state_went.Goals as goal

pub returns-clause-paths : goal.returns-clause-paths
returns-clause-paths c = path_torn

pub returns-clause-resvs : goal.returns-clause-resvs
returns-clause-resvs c = resv_torn

pub returns-clause-exactly : goal.returns-clause-exactly
returns-clause-exactly c = tears_exactly

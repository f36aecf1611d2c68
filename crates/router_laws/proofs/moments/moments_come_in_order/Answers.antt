-- A moment is compared with the last one that there is, and then with the router's.
use Rattle.router_laws.proofs.Ticks.{moment_done, moment_late, moment_none}
use Rattle.router_laws.proofs.moments.moments_come_in_order.Goals as goal

pub returns-clause-done : goal.returns-clause-done
returns-clause-done c = moment_done

pub returns-clause-none : goal.returns-clause-none
returns-clause-none c = moment_none

pub returns-clause-late : goal.returns-clause-late
returns-clause-late c = moment_late

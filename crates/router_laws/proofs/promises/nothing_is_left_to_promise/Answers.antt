-- Where a router is opened, and from then on.
use Rattle.abstract_router.specs.Steps.{opening}
use Rattle.router_soundness.proofs.AssigningStands.{stands_opening, stands_run, stands_step}
use Rattle.router_soundness.proofs.Running.{sound_opening}
use Rattle.router_laws.proofs.promises.nothing_is_left_to_promise.Goals as goal

pub returns-clause-opening : goal.returns-clause-opening
returns-clause-opening c = stands_opening

pub returns-clause-step : goal.returns-clause-step
returns-clause-step c = λ r before after made router is stands step. stands_step r before made after router is stands step

pub returns-clause-run : goal.returns-clause-run
returns-clause-run c = λ r routes tunnels bypasses run after router are begin unchanging protect ran.
    stands_run r (opening r routes tunnels bypasses) run after router (sound_opening r routes tunnels bypasses router are begin unchanging protect) (stands_opening r routes tunnels bypasses) ran

-- Each change of the state keeps it sound.
use Rattle.abstract_router.specs.Steps.{opening}
use Rattle.router_soundness.proofs.Running.{sound_opening, sound_step, sound_run}
use Rattle.router_soundness.proofs.soundness.every_run_stays_sound.Goals as goal

pub returns-clause-opening : goal.returns-clause-opening
returns-clause-opening c = sound_opening

pub returns-clause-step : goal.returns-clause-step
returns-clause-step c = sound_step

pub returns-clause-run : goal.returns-clause-run
returns-clause-run c = λ r routes tunnels bypasses run after router are begin unchanging protect ran. sound_run r (opening r routes tunnels bypasses) run after router (sound_opening r routes tunnels bypasses router are begin unchanging protect) ran

-- A restart is a step, a start is one, and a router that isn't started is sound.
use Rattle.std.specs.Prelude.{◌≡◌, true, false, []}
use Rattle.std.proofs.Common.{refl, sym, ◌∙◌}
use Rattle.lsr_facts.specs.declared.router.Router.{Router}
use Rattle.abstract_paths.proofs.Primitives as paths
use Rattle.abstract_paths.specs.declared.events.Event.TheVariants as events
use Rattle.abstract_router.specs.Soundness.{IsSound}
use Rattle.abstract_router.specs.States.{State, emptied}
use Rattle.abstract_router.specs.Steps.{Step}
use Rattle.router_soundness.proofs.Beside.{sound_cold}
use Rattle.router_core.specs.Plans.{quiet}

-- what a router knows that has no path is sound, also while it is cold
pub sound_stopped : (r : Router) (s : State) → s.facts.paths ≡ [] → IsSound r s → IsSound r (record s { facts = record s.facts { cold = true } })
sound_stopped r s none is = sound_cold r s true (paths.sound_stopped r s.facts none is.paths) is

-- a running router is restarted by one step
pub restarts : (r : Router) (s : State) → s.facts.cold ≡ false → Step r s (quiet events.Restart) (record (emptied s) { facts = record (emptied s).facts { cold = true } })
restarts r s runs = record { possible = tt; awake = λ cold. absurd (let e = sym runs ∙ cold in cc); passes = refl; chosen = refl; replied = refl; changed = refl; sent = refl }

-- and a cold one is started by one
pub starts : (r : Router) (s : State) → Step r (record s { facts = record s.facts { cold = true } }) (quiet events.Start) (record s { facts = record s.facts { cold = false } })
starts r s = record { possible = tt; awake = λ cold. refl; passes = refl; chosen = refl; replied = refl; changed = refl; sent = refl }

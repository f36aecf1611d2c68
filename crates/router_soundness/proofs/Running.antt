-- A router is opened sound, and each step and each run keeps it so.
use Rattle.std.specs.Prelude.{ℕ, List, [], ◌∷◌}
use Rattle.std.proofs.Common.{sym, subst}
use Rattle.rsvp_bodies.specs.declared.prefix.Prefix.{Prefix}
use Rattle.lsr_facts.specs.Bypasses.{AreBypasses}
use Rattle.lsr_facts.specs.Routers.{AreRoutes, IsRouter}
use Rattle.lsr_facts.specs.Tunnels.{AreTunnels, AreUnchanging}
use Rattle.lsr_facts.specs.declared.bypass.Bypass.{Bypass}
use Rattle.lsr_facts.specs.declared.router.Router.{Router}
use Rattle.lsr_facts.specs.declared.tunnel.Tunnel.{Tunnel}
use Rattle.abstract_paths.specs.declared.events.Made.{Made}
use Rattle.abstract_paths.proofs.Primitives.{opening_stands}
use Rattle.abstract_paths.specs.Restarts.{opening_facts}
use Rattle.router_soundness.proofs.Drafting.{outcome-leaves}
use Rattle.router_soundness.proofs.Settling.{sound_after}
use Rattle.router_soundness.proofs.Bare.{sound_bare}
use Rattle.abstract_router.specs.Arrivals.{outcome}
use Rattle.abstract_router.specs.Soundness.{IsSound}
use Rattle.abstract_router.specs.States.{State}
use Rattle.abstract_router.specs.Steps.{Run, Step, opening}

-- A router is opened sound.
pub sound_opening : (r : Router) (routes : List (Prefix × ℕ)) (tunnels : List (ℕ × Tunnel)) (bypasses : List (ℕ × Bypass)) → IsRouter r → AreRoutes r routes → AreTunnels r tunnels → AreUnchanging tunnels → AreBypasses r tunnels bypasses → IsSound r (opening r routes tunnels bypasses)
sound_opening r routes tunnels bypasses router are begin unchanging protect =
    sound_bare r (opening_facts r routes tunnels bypasses) (opening_stands r routes tunnels bypasses are begin unchanging protect)

-- A step keeps it so.
pub sound_step : (r : Router) (before : State) (made : Made) (after : State) → IsRouter r → IsSound r before → Step r before made after → IsSound r after
sound_step r before made after router is step =
    subst (IsSound r) (sym step.changed) (sound_after r before (outcome r before made.event) made.labels is (outcome-leaves r before made.event router is step.possible step.awake) step.chosen)

-- So do steps, one after the other.
pub sound_run : (r : Router) (before : State) (run : List Made) (after : State) → IsRouter r → IsSound r before → Run r before run after → IsSound r after
sound_run r before [] after router is run = subst (IsSound r) (sym run) is
sound_run r before (made ∷ more) after router is run = sound_run r run.0 more after router (sound_step r before made run.0 router is run.1) run.2

-- The bandwidth that bypasses promise stands: where a router is opened, after each step, and after each run.
use Rattle.std.specs.Prelude.{◌≡◌, ◌≢◌, ℕ, Bool, true, false, if◌then◌else◌, List, [], ◌∷◌}
use Rattle.std.proofs.Common.{refl, sym, subst}
use Rattle.rsvp_bodies.specs.declared.prefix.Prefix.{Prefix}
use Rattle.lsr_facts.specs.Routers.{IsRouter}
use Rattle.lsr_facts.specs.declared.bypass.Bypass.{Bypass}
use Rattle.lsr_facts.specs.declared.facts.Facts.{Facts}
use Rattle.lsr_facts.specs.declared.key.Key.{Key}
use Rattle.lsr_facts.specs.declared.router.Router.{Router}
use Rattle.lsr_facts.specs.declared.tunnel.Tunnel.{Tunnel}
use Rattle.bypass_shares.specs.Shares.{assigned}
use Rattle.abstract_paths.specs.declared.events.Event.TheVariants as events
use Rattle.abstract_paths.specs.declared.events.Event.{Event}
use Rattle.abstract_paths.specs.declared.events.Made.{Made}
use Rattle.abstract_paths.specs.Restarts.{opening_facts}
use Rattle.abstract_router.specs.Arrivals.{outcome}
use Rattle.abstract_router.specs.Assigning.{assignments_of, wishes_of}
use Rattle.abstract_router.specs.BypassTunnels.{bypass_tunnels_of}
use Rattle.abstract_router.specs.Outcomes.{Outcome}
use Rattle.abstract_router.specs.Soundness.{IsSound}
use Rattle.abstract_router.specs.States.{State, bare}
use Rattle.abstract_router.specs.Steps.{Run, Step, opening, settled, taken_over, with_moments}
use Rattle.router_soundness.proofs.AssigningAgain.{standing-left}
use Rattle.router_soundness.proofs.AssigningTaken.{may_promise}
use Rattle.router_soundness.proofs.Drafting.{outcome-leaves, runs_for}
use Rattle.router_soundness.proofs.Running.{sound_step}
use Rattle.router_soundness.proofs.Settling.{LeavesBy}
use Rattle.router_soundness.proofs.Silence.{silent_keeps}
use Rattle.router_soundness.specs.Assigned.{AreStanding}
use Rattle.router_soundness.specs.Drafted.{IsDrafted}

-- Where nothing is known of LSPs, nothing is promised.
pub stands_bare : (r : Router) (facts : Facts) → AreStanding r (bare facts)
unfolding assignments_of wishes_of assigned
stands_bare r facts = refl

-- It stands once what follows from an event's own change has been done.
pub stands_settled : (r : Router) (before s : State) (chosen : List (Key × ℕ)) → IsSound r before → IsDrafted r before s → AreStanding r (settled r chosen s)
unfolding assignments_of wishes_of bypass_tunnels_of
stands_settled r before s chosen were drafted = standing-left r (taken_over r s) (may_promise r before s were drafted)

-- When messages were sent last doesn't matter.
pub stands_sent : (r : Router) (before : State) (o : Outcome) (s : State) → AreStanding r s → AreStanding r (with_moments r before o s)
unfolding assignments_of wishes_of bypass_tunnels_of
stands_sent r before o s stands = stands

-- Nor does it whether the router is cold.
stands_started : (r : Router) (s : State) → AreStanding r s → AreStanding r (outcome r s events.Start).after
unfolding assignments_of wishes_of bypass_tunnels_of
stands_started r s stands = stands

-- An event that is silent leaves it so.
stands_silently : (r : Router) (s : State) (event : Event) → AreStanding r s → (s.facts.cold ≡ true → event ≡ events.Start) → (outcome r s event).is_silent ≡ true → AreStanding r (outcome r s event).after
stands_silently r s event stands awake silent = by event awake silent
  where
    kept : (event : Event) → (event ≡ events.Start → ⊥) → event ≢ events.Restart → (s.facts.cold ≡ true → event ≡ events.Start) → (outcome r s event).is_silent ≡ true → AreStanding r (outcome r s event).after
    kept event no_start other awake silent = subst (AreStanding r) (sym (silent_keeps r s event (runs_for s.facts.cold event no_start awake) other silent)) stands

    by : (event : Event) → (s.facts.cold ≡ true → event ≡ events.Start) → (outcome r s event).is_silent ≡ true → AreStanding r (outcome r s event).after
    by (events.Arrive a) = kept (events.Arrive a) (λ e. cc) (λ e. cc)
    by (events.Relay m) = kept (events.Relay m) (λ e. cc) (λ e. cc)
    by (events.Tick n) = kept (events.Tick n) (λ e. cc) (λ e. cc)
    by (events.LinkUp number) = kept (events.LinkUp number) (λ e. cc) (λ e. cc)
    by (events.LinkDown number) = kept (events.LinkDown number) (λ e. cc) (λ e. cc)
    by (events.Command c) = kept (events.Command c) (λ e. cc) (λ e. cc)
    by events.Restart = λ awake silent. stands_bare r (outcome r s events.Restart).after.facts
    by events.Start = λ awake silent. stands_started r s stands

-- Where a router is opened it stands.
pub stands_opening : (r : Router) (routes : List (Prefix × ℕ)) (tunnels : List (ℕ × Tunnel)) (bypasses : List (ℕ × Bypass)) → AreStanding r (opening r routes tunnels bypasses)
stands_opening r routes tunnels bypasses = stands_bare r (opening_facts r routes tunnels bypasses)

-- A step keeps it so.
pub stands_step : (r : Router) (before : State) (made : Made) (after : State) → IsRouter r → IsSound r before → AreStanding r before → Step r before made after → AreStanding r after
stands_step r before made after router is stands step =
    subst (AreStanding r) (sym step.changed) (by o.is_silent (outcome-leaves r before made.event router is step.possible step.awake) (stands_silently r before made.event stands step.awake))
  where
    o : Outcome
    o = outcome r before made.event

    by : (silent : Bool) → LeavesBy r before silent o.after → (silent ≡ true → AreStanding r o.after) → AreStanding r (if silent then o.after else with_moments r before o (settled r made.labels o.after))
    by true sound silently = silently refl
    by false drafted silently = stands_sent r before o (settled r made.labels o.after) (stands_settled r before o.after made.labels is drafted)

-- So do steps, one after the other.
pub stands_run : (r : Router) (before : State) (run : List Made) (after : State) → IsRouter r → IsSound r before → AreStanding r before → Run r before run after → AreStanding r after
stands_run r before [] after router is stands run = subst (AreStanding r) (sym run) stands
stands_run r before (made ∷ more) after router is stands run =
    stands_run r run.0 more after router (sound_step r before made run.0 router is run.1) (stands_step r before made run.0 router is stands run.1) run.2

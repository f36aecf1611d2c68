-- A step keeps routers sound and wires joined, and what is true of labels in a closed world.
use Rattle.std.specs.Prelude.{◌≡◌, ◌⊎◌, ℕ, List, [], ◌∷◌, Some, map, set, slice_get, true, Ok}
use Rattle.std.specs.List.{AllByRecursion}
use Rattle.std.proofs.Common.{refl, inl, inr, subst, sym}
use Rattle.lsr_config.specs.Configs.{Setup}
use Rattle.lsr_facts.specs.declared.router.Router.{Router}
use Rattle.abstract_paths.specs.declared.events.Event.{Event}
use Rattle.abstract_paths.specs.declared.events.Event.TheVariants as events
use Rattle.abstract_paths.specs.declared.events.Made.{Made}
use Rattle.abstract_router.specs.States.{RouterState, State}
use Rattle.abstract_router.specs.Steps.{Step}
use Rattle.abstract_world.specs.Moves.{IsPassed}
use Rattle.abstract_world.specs.Opening.{opened_world}
use Rattle.abstract_world.specs.Wires.{AreJoined, is_closed}
use Rattle.abstract_world.specs.Worlds.{IsStep, WorldState, routers_in, stepped}
use Rattle.abstract_world.specs.declared.joint.Joint.{Joint}
use Rattle.abstract_world.specs.declared.told.Answer.{Answer}
use Rattle.datagrams.specs.declared.datagram.Datagram.TheVariants as kinds
use Rattle.datagrams.specs.declared.datagram.Passed.{Passed}
use Rattle.datagrams.specs.declared.datagram.Passed.TheVariants as passes
use Rattle.router_core.specs.States.{opened}
use Rattle.world_laws.specs.Coming.{IsTrueEvent}
use Rattle.world_laws.specs.Opening.{IsOpened}
use Rattle.world_laws.specs.Truths.{IsTrueWorld}
use Rattle.world_laws.proofs.Moving.{closed_before, kept_by_frame}
use Rattle.world_laws.proofs.Opening.{world_opened}
use Rattle.world_laws.proofs.Stepping.{kept_by_step, step_later}
use Rattle.lab_world.specs.Invariant.{IsSoundRouter, IsSoundWorld, IsWorld}
use Rattle.lab_world.specs.Steps.{ComesTrue, HappensTrue}
use Rattle.lab_world.proofs.Stepping.{is_step}
use Rattle.world_laws.proofs.Places.{all_set, map_set}

-- the router of a place is the same router still, and what it knows is sound
pub kept_world : (routers : List RouterState) (joints : List Joint) (place : ℕ) (q : RouterState) (s : State) → IsWorld routers joints → slice_get routers place ≡ Some q → IsSoundRouter (record { router = q.router; state = s })
    → IsWorld (set routers place (record { router = q.router; state = s })) joints
kept_world routers joints place q s world known sound = record {
  sound = all_set IsSoundRouter routers place (record { router = q.router; state = s }) world.sound sound;
  joined = subst (λ (rs : List Router). AreJoined rs joints) (sym (map_set (λ (q : RouterState). q.router) routers place q (record { router = q.router; state = s }) known refl)) world.joined;
}

-- so is the world that a step leaves
pub kept_step : (w : WorldState) (place : ℕ) (q : RouterState) (made : Made) (s : State) → IsSoundWorld w → HappensTrue w place made.event → slice_get w.routers place ≡ Some q → Step q.router q.state made s
    → IsSoundRouter (record { router = q.router; state = s }) → IsSoundWorld (stepped place (record { router = q.router; state = s }) made w)
kept_step w place q made s world came known step sound =
    let after : WorldState = stepped place (record { router = q.router; state = s }) made w in
    let is : IsStep w place made after = is_step w place q made s after known step refl in
    record {
      world = kept_world w.routers w.joints place q s world.world known sound;
      so = λ closed.
          let before : is_closed (routers_in w.routers) w.joints ≡ true = closed_before w after (step_later w place made after is) closed in
          kept_by_step w place made after (record { joined = world.world.joined; closed = before }) (world.so before) (came before) is;
    }

-- a restart and a start say nothing of labels
pub quiet_true : (w : WorldState) (place : ℕ) (event : Event) → (event ≡ events.Restart) ⊎ (event ≡ events.Start) → HappensTrue w place event
quiet_true w place event (inl is) closed = subst (IsTrueEvent w place) (sym is) tt
quiet_true w place event (inr is) closed = subst (IsTrueEvent w place) (sym is) tt

-- and the one in which a frame is passed on
pub kept_passed : (w : WorldState) (place : ℕ) (passed : Passed) (answer : Answer) (after : WorldState) → IsSoundWorld w → ComesTrue w place (Ok (kinds.Passed passed)) → IsPassed w place passed answer after → IsSoundWorld after
kept_passed w place (passes.Sent link frame) answer after world came is =
    subst IsSoundWorld (sym is.1) (record { world = world.world; so = λ closed. subst IsTrueWorld is.1 (kept_by_frame w place (passes.Sent link frame) answer after (world.so closed) (came closed) is) })
kept_passed w place (passes.Delivered payload) answer after world came is = subst IsSoundWorld (sym is.1) world

-- routers are sound as they are opened
are_opened : (configs : List Setup) (routers : List RouterState) → routers ≡ map opened configs → AllByRecursion IsSoundRouter routers → AllByRecursion IsOpened routers
are_opened configs routers is sound = subst (AllByRecursion IsOpened) (sym is) (by configs (subst (AllByRecursion IsSoundRouter) is sound))
  where
    by : (configs : List Setup) → AllByRecursion IsSoundRouter (map opened configs) → AllByRecursion IsOpened (map opened configs)
    by [] sound = tt
    by (c ∷ configs) sound = (record { router = sound.0.router; sound = sound.0.sound; routes = c.routes; tunnels = c.tunnels; bypasses = c.bypasses; opened = refl }, by configs sound.1)

pub sound_opened : (configs : List Setup) (routers : List RouterState) (joints : List Joint) → routers ≡ map opened configs → AllByRecursion IsSoundRouter routers → AreJoined (routers_in routers) joints → IsSoundWorld (opened_world routers joints)
sound_opened configs routers joints is sound joined = record {
  world = record { sound = sound; joined = joined };
  so = λ closed. world_opened routers joints (are_opened configs routers is sound);
}

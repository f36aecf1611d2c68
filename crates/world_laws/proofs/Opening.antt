-- A world as it is opened is true: nothing is held, and nothing was sent.
use Rattle.std.specs.Prelude.{ℕ, List}
use Rattle.std.specs.List.{AllByRecursion}
use Rattle.std.proofs.Common.{subst, sym}
use Rattle.abstract_router.specs.Soundness.{IsSound}
use Rattle.abstract_router.specs.States.{RouterState, State}
use Rattle.abstract_router.specs.Steps.{opening}
use Rattle.router_laws.proofs.Settled.{opening-settled}
use Rattle.abstract_world.specs.Opening.{opened_world}
use Rattle.abstract_world.specs.Worlds.{WorldState}
use Rattle.abstract_world.specs.declared.joint.Joint.{Joint}
use Rattle.world_laws.specs.Opening.{IsOpened}
use Rattle.world_laws.specs.Truths.{IsTrueRouter, IsTrueWorld}
use Rattle.world_laws.proofs.Places.{at_place}

opened_true : (w : WorldState) (place : ℕ) (q : RouterState) → IsOpened q → IsTrueRouter w place q.router q.state
opened_true w place q is =
    let s : State = opening q.router is.routes is.tunnels is.bypasses in
    subst (IsTrueRouter w place q.router) (sym is.opened) (record {
      router = is.router;
      sound = subst (λ (t : State). IsSound q.router t) is.opened is.sound;
      settled = opening-settled q.router is.routes is.tunnels is.bypasses;
      resvs = λ key resv found. absurd (let e = found in cc);
      repairs = λ key repair found. absurd (let e = found in cc);
      labels = λ key label found. absurd (let e = found in cc);
    })

pub world_opened : (routers : List RouterState) (joints : List Joint) → AllByRecursion IsOpened routers → IsTrueWorld (opened_world routers joints)
world_opened routers joints each = record {
  routers = λ place r s knows. opened_true (opened_world routers joints) place (record { router = r; state = s }) (at_place IsOpened routers place (record { router = r; state = s }) each knows);
  frames = tt;
}

-- What always holds of a world's routers and wires.
use Rattle.std.specs.Prelude.{◌≡◌, List, true}
use Rattle.std.specs.List.{AllByRecursion}
use Rattle.lsr_facts.specs.Routers.{IsRouter}
use Rattle.abstract_router.specs.Soundness.{IsSound}
use Rattle.abstract_router.specs.States.{RouterState}
use Rattle.abstract_world.specs.Wires.{AreJoined, is_closed}
use Rattle.abstract_world.specs.Worlds.{WorldState, routers_in}
use Rattle.abstract_world.specs.declared.joint.Joint.{Joint}
use Rattle.world_laws.specs.Truths.{IsTrueWorld}

-- a router as it should be, which knows what is sound
pub record IsSoundRouter (q : RouterState) : Type 0 where
  pub router : IsRouter q.router
  pub sound : IsSound q.router q.state

-- Each router is sound, and each wire could be put up beside those before it.
pub record IsWorld (routers : List RouterState) (joints : List Joint) : Type 0 where
  pub sound : AllByRecursion IsSoundRouter routers
  pub joined : AreJoined (routers_in routers) joints

-- And where the wires are as the routers take them to be, all that routers hold and frames say of labels is true.
pub record IsSoundWorld (w : WorldState) : Type 0 where
  pub world : IsWorld w.routers w.joints
  pub so : is_closed (routers_in w.routers) w.joints ≡ true → IsTrueWorld w

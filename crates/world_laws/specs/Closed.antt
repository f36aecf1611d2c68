-- Worlds whose wires are as their routers take them to be.
use Rattle.std.specs.Prelude.{◌≡◌, true}
use Rattle.abstract_world.specs.Wires.{AreJoined, is_closed}
use Rattle.abstract_world.specs.Worlds.{WorldState, routers_in}

-- Each wire joins two links that no other wire joins, and that name each other's address and router id as their neighbour's; and
-- no address is one of two routers.
pub record IsClosed (w : WorldState) : Type 0 where
  pub joined : AreJoined (routers_in w.routers) w.joints
  pub closed : is_closed (routers_in w.routers) w.joints ≡ true

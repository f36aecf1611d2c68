use Rattle.std.proofs.Common.{◌≡◌, drop}
use Rattle.abstract_world.specs.Wires.{are_apart}
use Rattle.abstract_world.specs.Worlds.{routers_in}
use Rattle.lab_world.proofs.closed.are_apart.Given as goal

-- the routers so far share no address with those after them
abbrev pub invariant-loop-place : goal.invariant-loop-place
invariant-loop-place l = are_apart (routers_in l.routers) ≡ are_apart (routers_in (drop l.place l.routers))

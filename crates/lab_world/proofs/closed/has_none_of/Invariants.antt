use Rattle.std.proofs.Common.{◌≡◌, drop}
use Rattle.std.specs.List.{list_all}
use Rattle.abstract_world.specs.Wires.{have_none_in_common}
use Rattle.abstract_world.specs.Worlds.{routers_in}
use Rattle.lab_world.proofs.closed.has_none_of.Given as goal

-- the routers so far have no address of this one
abbrev pub invariant-loop-other : goal.invariant-loop-other
invariant-loop-other l = list_all (have_none_in_common l.router) (routers_in l.others) ≡ list_all (have_none_in_common l.router) (routers_in (drop l.other-index l.others))

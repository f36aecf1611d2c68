use Rattle.std.proofs.Common.{◌≡◌, drop}
use Rattle.std.specs.List.{list_all}
use Rattle.abstract_world.specs.Wires.{name_each_other}
use Rattle.abstract_world.specs.Worlds.{routers_in}
use Rattle.lab_world.proofs.closed.are_named.Given as goal

-- the wires so far join links that name each other
abbrev pub invariant-loop-joint : goal.invariant-loop-joint
invariant-loop-joint l = list_all (name_each_other (routers_in l.routers)) l.joints ≡ list_all (name_each_other (routers_in l.routers)) (drop l.joint-index l.joints)

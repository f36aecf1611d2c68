use Rattle.std.proofs.Common.{◌≡◌, map}
use Rattle.std.specs.List.{AllByRecursion}
use Rattle.router_core.specs.States.{opened}
use Rattle.lab_world.specs.Invariant.{IsSoundRouter}
use Rattle.lab_world.proofs.parts.open_all.Given as goal

-- so many are open, and each of these is sound
abbrev pub invariant-loop-config : goal.invariant-loop-config
invariant-loop-config l = record {
  opened : l.routers.items ≡ map opened l.yielded;
  sound : AllByRecursion IsSoundRouter l.routers.items;
}

use Rattle.std.proofs.Common.{◌≡◌, take}
use Rattle.std.specs.List.{flat_map}
use Rattle.abstract_router.specs.Repairing.{told_of}
use Rattle.state_settling.proofs.repair.told_of_all.Given as goal

-- what so many tell
abbrev pub invariant-loop-repair : goal.invariant-loop-repair
invariant-loop-repair g l =
    l.told.items ≡ flat_map (told_of (g.A.StateView.router l.fn.after) (g.A.StateView.state l.fn.after)) (take l.repair-index l.repairs)

use Rattle.std.proofs.Common.{◌≡◌, map, take}
use Rattle.bandwidth_protection.specs.Narrowing.{room_of}
use Rattle.bandwidth_protection.proofs.opening.rooms.Given as goal

-- so many are looked at
abbrev pub invariant-loop-bypass : goal.invariant-loop-bypass
invariant-loop-bypass l = l.all.items ≡ map (room_of l.left) (take l.bypass-index l.bypasses)

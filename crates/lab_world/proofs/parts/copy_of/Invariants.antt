use Rattle.std.proofs.Common.{◌≡◌, ◌≤◌, length, take}
use Rattle.std.specs.Prelude.{vec_capacity}
use Rattle.lab_world.proofs.parts.copy_of.Given as goal

-- so many are copied, and there is room for all
abbrev pub invariant-loop-joint : goal.invariant-loop-joint
invariant-loop-joint l = record {
  copied : l.copy.items ≡ take l.joint-index l.joints;
  room : length l.joints ≤ vec_capacity l.copy;
}

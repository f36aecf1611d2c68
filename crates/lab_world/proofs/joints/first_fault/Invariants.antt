use Rattle.std.proofs.Common.{◌≡◌, ◌<◌, ℕ, true}
use Rattle.abstract_world.specs.Wires.{can_join_at}
use Rattle.abstract_world.specs.Worlds.{routers_in}
use Rattle.lab_world.proofs.joints.first_fault.Given as goal

-- the joints so far can be put up
abbrev pub invariant-loop-place : goal.invariant-loop-place
invariant-loop-place l = (k : ℕ) → k < l.place → can_join_at (routers_in l.routers) l.joints k ≡ true

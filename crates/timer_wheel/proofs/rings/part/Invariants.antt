use Rattle.std.proofs.Common.{◌≡◌, ℕ, ◌<◌, get_or}
use Rattle.timer_wheel.proofs.rings.part.Given as goal

-- the nodes so far stand alone
abbrev pub invariant-loop-node : goal.invariant-loop-node
invariant-loop-node l = (x : ℕ) → x < l.node → get_or l.nodes.items x 0 ≡ x

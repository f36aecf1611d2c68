use Rattle.std.proofs.Common.{◌≡◌, length}
use Rattle.make_before_break.specs.Switching.{with_all_switched}
use Rattle.make_before_break.proofs.takeover.switch_all.Given as goal

-- those that are left go over after these
abbrev pub invariant-loop-number : goal.invariant-loop-number
invariant-loop-number l =
    with_all_switched l.fn.router l.edits l.tunnels.items ≡ with_all_switched l.fn.router l.fn.edits l.fn.tunnels.items

abbrev pub decreases-loop-number : goal.decreases-loop-number
decreases-loop-number l = length l.tunnels.items

use Rattle.std.proofs.Common.{◌≡◌, ◌≤◌, ◌*◌, length}
use Rattle.label_stacks.specs.Stacks.{has_one_bottom, words_at}
use Rattle.label_stacks.proofs.reading.has_one_bottom.Given as goal

-- the words so far have no bottom bit, so all of them are right where those that are left are
abbrev pub invariant-loop-left : goal.invariant-loop-left
invariant-loop-left l =
    (has_one_bottom (words_at l.left l.rest) ≡ has_one_bottom (words_at l.count l.bytes)) × (4 * l.left ≤ length l.rest)

abbrev pub decreases-loop-left : goal.decreases-loop-left
decreases-loop-left l = l.left

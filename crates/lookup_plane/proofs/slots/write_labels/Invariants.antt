use Rattle.std.proofs.Common.{◌≡◌, length}
use Rattle.lookup_plane.specs.Slots.{written}
use Rattle.lookup_plane.proofs.slots.write_labels.Given as goal

-- the rows that are left make of the slots what all of them make of them as they were
abbrev pub invariant-loop-row : goal.invariant-loop-row
invariant-loop-row l = written l.first l.rest l.slots ≡ written l.first l.fn.rows l.fn.slots

abbrev pub decreases-loop-row : goal.decreases-loop-row
decreases-loop-row l = length l.rest

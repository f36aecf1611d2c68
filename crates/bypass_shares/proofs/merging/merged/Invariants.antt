-- The rows so far, and then those of both that come yet, are all.
use Rattle.std.proofs.Common.{◌≡◌, ◌+◌, ◌-◌, ◌≤◌, ◌++◌, drop, length}
use Rattle.lsr_facts.specs.Orders.{key_cmp}
use Rattle.bypass_shares.specs.Merged.{with_rows}
use Rattle.bypass_shares.proofs.merging.merged.Given as goal

abbrev pub invariant-loop-i : goal.invariant-loop-i
invariant-loop-i l = record {
  rows_left : l.i ≤ length l.rows;
  more_left : l.j ≤ length l.more;
  together : l.all.items ++ with_rows key_cmp (drop l.j l.more) (drop l.i l.rows) ≡ with_rows key_cmp l.more l.rows;
}

abbrev pub decreases-loop-i : goal.decreases-loop-i
decreases-loop-i l = (length l.rows - l.i) + (length l.more - l.j)

-- The marks before this one are those after the segment's entries.
use Rattle.std.proofs.Common.{◌≡◌, take}
use Rattle.run_journal.specs.Marks.{counted_all}
use Rattle.run_reconciler.proofs.reconciling.are_end_marks.Given as goal

abbrev pub invariant-loop-i : goal.invariant-loop-i
invariant-loop-i l = take l.i l.marks ≡ take l.i (counted_all l.segment.from l.segment.entries).marks

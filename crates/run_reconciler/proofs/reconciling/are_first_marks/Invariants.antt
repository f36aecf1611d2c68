-- The marks before this one are those of ports that had no entry.
use Rattle.std.proofs.Common.{◌≡◌, take}
use Rattle.run_journal.specs.Marks.{first_marks}
use Rattle.run_reconciler.proofs.reconciling.are_first_marks.Given as goal

abbrev pub invariant-loop-i : goal.invariant-loop-i
invariant-loop-i l = take l.i l.marks ≡ first_marks l.i

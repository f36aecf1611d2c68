-- A mark that isn't that of a port with no entry.
use Rattle.std.proofs.Common.{◌≡◌, length}
use Rattle.run_journal.specs.Marks.{first_mark, first_marks}
use Rattle.run_reconciler.proofs.Joining.{no_first, says_no}
use Rattle.run_reconciler.proofs.reconciling.are_first_marks.Goals as goal

pub returns-then-not-is_first_mark : goal.returns-then-not-is_first_mark
returns-then-not-is_first_mark c =
    says_no (c.args.marks.now ≡ first_marks (length c.args.marks.now))
    (no_first c.args.marks.now c.loop-i.i (first_mark 0) c.is_first_mark.result c.loop-i-test.true c.is_first_mark.ensures c.if-not-is_first_mark.true)

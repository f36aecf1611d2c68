-- The walk has come to this entry.
use Rattle.std.proofs.Common.{◌≡◌, take}
use Rattle.run_journal.specs.Marks.{counted_all}
use Rattle.run_reconciler.specs.Walks.{IsAt, IsWithin}
use Rattle.run_reconciler.proofs.reconciling.walked.Given as goal

abbrev pub invariant-loop-entry : goal.invariant-loop-entry
invariant-loop-entry l = record {
  at : IsAt l.walk (counted_all l.segment.from (take l.entry-index l.entries));
  entries : l.walk.entries ≡ l.entry-index;
  few : IsWithin l.walk;
}

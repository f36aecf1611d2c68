-- The mark is compared with that after the entries before this one.
use Rattle.std.proofs.Common.{◌≡◌, ◌↔◌, IsTrue, slice_index_or, take}
use Rattle.run_journal.specs.Marks.{counted_all}
use Rattle.run_reconciler.specs.Walks.{IsAt, IsWithin}
use Rattle.run_reconciler.proofs.reconciling.ends_with.Given as goal

abbrev pub invariant-loop-entry : goal.invariant-loop-entry
invariant-loop-entry l = record {
  at : IsAt l.walk (counted_all l.segment.from (take l.entry-index l.entries));
  index : l.walk.index ≡ l.index;
  entries : l.walk.entries ≡ l.entry-index;
  few : IsWithin l.walk;
  same : IsTrue l.is_same ↔ (l.mark ≡ slice_index_or (counted_all l.segment.from (take l.entry-index l.entries)).marks l.index l.mark);
}

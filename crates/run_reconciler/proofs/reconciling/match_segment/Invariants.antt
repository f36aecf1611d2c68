-- The entries before this one call for what was taken of the port's receipts.
use Rattle.std.proofs.Common.{◌≡◌, ◌≤◌, ◌-◌, ◌++◌, length, take}
use Rattle.run_journal.specs.Marks.{counted_all}
use Rattle.run_reconciler.specs.Reconciled.{called_for}
use Rattle.run_reconciler.specs.Walks.{IsAt, IsWithin, mine}
use Rattle.run_reconciler.proofs.reconciling.match_segment.Given as goal

abbrev pub invariant-loop-entry : goal.invariant-loop-entry
invariant-loop-entry l = record {
  at : IsAt l.walk (counted_all l.segment.from (take l.entry-index l.entries));
  index : l.walk.index ≡ l.port - 1;
  entries : l.walk.entries ≡ l.entry-index;
  few : IsWithin l.walk;
  counted : l.count ≡ length (mine l.port (called_for l.segment.from (take l.entry-index l.entries)));
  counts : l.count ≤ l.entry-index;
  taken : mine l.port l.receipts ≡ mine l.port (called_for l.segment.from (take l.entry-index l.entries)) ++ mine l.port l.rest;
}

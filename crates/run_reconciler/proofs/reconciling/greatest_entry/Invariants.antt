-- No entry before this one has a greater port.
use Rattle.std.proofs.Common.{◌≤◌, All, take}
use Rattle.run_journal.specs.declared.entry.CountedEntry.{CountedEntry}
use Rattle.run_reconciler.proofs.reconciling.greatest_entry.Given as goal

abbrev pub invariant-loop-entry : goal.invariant-loop-entry
invariant-loop-entry l = record {
  least : l.least ≤ l.greatest;
  entries : All (λ (entry : CountedEntry). entry.entry.port ≤ l.greatest) (take l.entry-index l.entries);
}

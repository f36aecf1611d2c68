-- the entries so far are written
use Rattle.std.proofs.Common.{◌≡◌, ◌++◌, map, take}
use Rattle.std.specs.List.{AllByRecursion, flat_map}
use Rattle.journal_files.specs.Entries.{entry_bytes}
use Rattle.journal_files.specs.Fitting.{EntryFits, EventTextFits}
use Rattle.journal_files.specs.Formats.{same_text}
use Rattle.journal_files.proofs.writing.put_each.Given as goal

abbrev pub invariant-loop-entry : goal.invariant-loop-entry
invariant-loop-entry g l =
    (l.out.items ≡ l.initial.out.items ++ flat_map (entry_bytes same_text) (map g.E.AsEntry.entry_of (take l.entry-index l.entries))) × AllByRecursion (EntryFits EventTextFits) (map g.E.AsEntry.entry_of (take l.entry-index l.entries))

use Rattle.std.proofs.Common.{◌≡◌, take}
use Rattle.journal_bytes.proofs.entry.ListedWrittenFrameTryCopy.try_copy.Given as goal

-- so many are copied
abbrev pub invariant-loop-frame : goal.invariant-loop-frame
invariant-loop-frame l = l.items.items ≡ take l.frame-index l.frame-items

-- The column after the bytes so far.
use Rattle.std.proofs.Common.{◌≡◌, ◌≤◌, ◌+◌, fold, take}
use Rattle.config_text.specs.Positions.{next_column}
use Rattle.config_text.proofs.position.column_after.Given as goal

abbrev pub invariant-loop-byte : goal.invariant-loop-byte
invariant-loop-byte l = (l.column ≡ fold next_column 1 (take l.byte-index l.before)) × (l.column ≤ l.byte-index + 1)

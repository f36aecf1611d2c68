-- The items before this one are the same.
use Rattle.std.proofs.Common.{◌≡◌, take}
use Rattle.journal_bytes.proofs.rows.are_same_items.Given as goal

abbrev pub invariant-loop-i : goal.invariant-loop-i
invariant-loop-i g l = take l.i l.items ≡ take l.i l.others

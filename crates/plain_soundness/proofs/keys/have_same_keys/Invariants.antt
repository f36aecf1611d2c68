-- The keys of all are the same just where those that are left are.
use Rattle.std.proofs.Common.{◌≡◌, drop}
use Rattle.std.specs.Prelude.{◌↔◌}
use Rattle.sorted_rows.specs.Rows.{keys_of}
use Rattle.plain_soundness.proofs.keys.have_same_keys.Given as goal

abbrev pub invariant-loop-i : goal.invariant-loop-i
invariant-loop-i g l = (keys_of (drop l.i l.rows) ≡ keys_of (drop l.i l.others)) ↔ (keys_of l.rows ≡ keys_of l.others)

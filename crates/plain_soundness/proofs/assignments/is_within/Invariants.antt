-- All fits the capacity just where what is left of the list fits what is left of it.
use Rattle.std.proofs.Common.{◌≤◌, drop}
use Rattle.std.specs.Prelude.{◌↔◌}
use Rattle.bypass_shares.specs.Shares.{assigned_of}
use Rattle.plain_soundness.proofs.assignments.is_within.Given as goal

abbrev pub invariant-loop-given : goal.invariant-loop-given
invariant-loop-given l = (assigned_of l.number (drop l.given-index l.assignments) ≤ l.left) ↔ (assigned_of l.number l.assignments ≤ l.capacity)

use Rattle.std.proofs.Common.{◌≡◌, take}
use Rattle.bandwidth_protection.proofs.in_use.known_assignments.Given as goal

-- so many rows are copied
abbrev pub invariant-loop-place : goal.invariant-loop-place
invariant-loop-place g l = l.rows.items ≡ take l.place (g.V.StateView.state l.fn.view).assignments

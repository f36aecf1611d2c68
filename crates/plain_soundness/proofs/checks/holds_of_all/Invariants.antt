-- All hold of all rows just where they hold of those that are left.
use Rattle.std.proofs.Common.{drop}
use Rattle.std.specs.Prelude.{◌↔◌}
use Rattle.std.specs.List.{AllByRecursion}
use Rattle.plain_soundness.proofs.checks.holds_of_all.Given as goal

abbrev pub invariant-loop-row : goal.invariant-loop-row
invariant-loop-row g l =
    let holds = g.C.Check.Holds l.check in
    AllByRecursion holds (drop l.row-index l.rows) ↔ AllByRecursion holds l.rows

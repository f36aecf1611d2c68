use Rattle.std.proofs.Common.{take}
use Rattle.std.specs.List.{AllByRecursion}
use Rattle.state_views.specs.Edits.{edited}
use Rattle.bandwidth_protection.specs.Resting.{IsAtRest}
use Rattle.bandwidth_protection.proofs.resting.are_at_rest.Given as goal

-- so many are at rest
abbrev pub invariant-loop-row : goal.invariant-loop-row
invariant-loop-row g l =
    let s = g.V.StateView.state l.view in
    AllByRecursion (λ row. IsAtRest s (edited l.edits s) row.0) (take l.row-index l.rows)

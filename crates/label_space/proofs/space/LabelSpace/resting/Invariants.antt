use Rattle.std.proofs.Common.{◌≡◌, ◌+◌}
use Rattle.std.specs.FinMap.Entries.{find}
use Rattle.std.specs.List.{filter}
use Rattle.std.specs.Prelude.{nat_lt}
use Rattle.label_space.specs.Bindings.{by_label}
use Rattle.label_space.proofs.space.LabelSpace.resting.Given as goal

-- the rows are those of the labels so far
abbrev pub invariant-loop-place : goal.invariant-loop-place
invariant-loop-place l = l.rows.items ≡ filter (λ row. nat_lt row.0 (l.self.range.first + l.place)) (by_label l.self.resting)

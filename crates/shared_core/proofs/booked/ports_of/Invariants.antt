use Rattle.std.proofs.Common.{◌≡◌, ◌+◌, ◌≤◌, map}
use Rattle.run_journal.specs.Marks.{first_marks}
use Rattle.shared_core.proofs.booked.ports_of.Given as goal

-- so many ports are made, and each took a part
abbrev pub invariant-loop-index : goal.invariant-loop-index
invariant-loop-index g l = (l.rest.amount ≡ 0) × (l.ports ≤ l.rest.parts + l.index) × (map (λ port. port.mark) l.all.items ≡ first_marks l.index)

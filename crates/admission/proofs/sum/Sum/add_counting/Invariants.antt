use Rattle.std.proofs.Common.{◌+◌, ◌*◌, ◌^◌, ◌≤◌, take}
use Rattle.std.specs.List.{filter}
use Rattle.lsr_facts.specs.Claims.{counts}
use Rattle.admission.specs.Sums.{AddsClaims}
use Rattle.admission.proofs.sum.Sum.add_counting.Given as goal

abbrev pub invariant-loop-row : goal.invariant-loop-row
invariant-loop-row l = AddsClaims l.fn.self (filter (counts l.link l.priority) (take l.row-index l.claims)) l.self × (l.self.total ≤ l.fn.self.total + l.row-index * 2 ^ 50)

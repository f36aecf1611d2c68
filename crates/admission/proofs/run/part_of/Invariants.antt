use Rattle.std.proofs.Common.{◌*◌, ◌^◌, ◌≤◌, take}
use Rattle.std.specs.List.{filter}
use Rattle.lsr_facts.specs.Claims.{counts}
use Rattle.admission.specs.Sums.{IsRateOf}
use Rattle.admission.proofs.run.part_of.Given as goal

-- the rate is that of those so far that count
abbrev pub invariant-loop-row : goal.invariant-loop-row
invariant-loop-row l = IsRateOf l._session (filter (counts l.link l.priority) (take l.row-index l.run)) l.rate × (l.rate.fixed ≤ l.row-index * 2 ^ 50)

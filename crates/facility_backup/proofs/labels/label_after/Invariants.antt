use Rattle.std.proofs.Common.{◌≡◌, length}
use Rattle.abstract_router.specs.Protecting.{label_after}
use Rattle.facility_backup.proofs.labels.label_after.Given as goal

-- the first label of those from here on is the first of all
abbrev pub invariant-loop-rest : goal.invariant-loop-rest
invariant-loop-rest l = label_after l.address l.rest ≡ label_after l.address l.entries

abbrev pub decreases-loop-rest : goal.decreases-loop-rest
decreases-loop-rest l = length l.rest

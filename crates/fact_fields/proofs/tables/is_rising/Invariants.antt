-- what is left rises where all do
use Rattle.std.proofs.Common.{◌≡◌, length}
use Rattle.std.specs.FinMap.Entries.{is_sorted}
use Rattle.fact_fields.proofs.tables.is_rising.Given as goal

abbrev pub invariant-loop-rest : goal.invariant-loop-rest
invariant-loop-rest g l = is_sorted g.K.Ord.cmp l.rest ≡ is_sorted g.K.Ord.cmp l.rows

abbrev pub decreases-loop-rest : goal.decreases-loop-rest
decreases-loop-rest g l = length l.rest

use Rattle.std.proofs.Common.{◌≡◌}
use Rattle.lsr_config.specs.Documents.{in_order}
use Rattle.lsr_config.proofs.document.table_of.Given as goal

abbrev pub invariant-loop-key : goal.invariant-loop-key
invariant-loop-key g l = l.table ≡ in_order g.K.Ord.cmp l.yielded

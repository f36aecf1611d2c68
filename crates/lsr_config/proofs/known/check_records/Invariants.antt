use Rattle.std.proofs.Common.{map, take}
use Rattle.toml.specs.View.{view}
use Rattle.lsr_config.specs.Documents.{known_rules}
use Rattle.lsr_config.proofs.Judging.{AreKept}
use Rattle.lsr_config.proofs.known.check_records.Given as goal

abbrev pub invariant-loop-record : goal.invariant-loop-record
invariant-loop-record l = AreKept (λ before d. known_rules l.keys d) (map view (take l.record-index l.record-items))

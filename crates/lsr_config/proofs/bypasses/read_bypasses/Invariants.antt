use Rattle.std.proofs.Common.{map, take}
use Rattle.toml.specs.View.{view}
use Rattle.lsr_config.specs.Values.{SaysEach}
use Rattle.lsr_config.specs.Documents.{bypass_rules, SaysBypass}
use Rattle.lsr_config.proofs.Judging.{AreKept}
use Rattle.lsr_config.proofs.bypasses.read_bypasses.Given as goal

abbrev pub invariant-loop-table : goal.invariant-loop-table
invariant-loop-table l =
    AreKept (bypass_rules (view l.document)) (map view (take l.table-index l.records)) × SaysEach SaysBypass (map view (take l.table-index l.records)) l.bypasses.items

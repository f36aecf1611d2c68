use Rattle.std.proofs.Common.{map, take}
use Rattle.toml.specs.View.{view}
use Rattle.lsr_config.specs.Values.{SaysEach}
use Rattle.lsr_config.specs.Documents.{route_rules, records, SaysRoute}
use Rattle.lsr_config.specs.declared.key.Key.TheVariants as key
use Rattle.lsr_config.proofs.Judging.{AreKept}
use Rattle.lsr_config.proofs.routes.read_routes.Given as goal

abbrev pub invariant-loop-table : goal.invariant-loop-table
invariant-loop-table l =
    AreKept (route_rules (records key.Link (view l.document))) (map view (take l.table-index l.records)) × SaysEach SaysRoute (map view (take l.table-index l.records)) l.routes.items

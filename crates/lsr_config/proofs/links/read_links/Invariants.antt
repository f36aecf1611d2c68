use Rattle.std.proofs.Common.{map, take}
use Rattle.toml.specs.View.{view}
use Rattle.lsr_config.specs.Values.{SaysEach}
use Rattle.lsr_config.specs.Documents.{link_rules, SaysLink}
use Rattle.lsr_config.proofs.Judging.{AreKept}
use Rattle.lsr_config.proofs.links.read_links.Given as goal

abbrev pub invariant-loop-table : goal.invariant-loop-table
invariant-loop-table l =
    AreKept (link_rules (view l.document)) (map view (take l.table-index l.records)) × SaysEach SaysLink (map view (take l.table-index l.records)) l.links.items

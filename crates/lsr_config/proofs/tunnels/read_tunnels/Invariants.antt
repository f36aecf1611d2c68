use Rattle.std.proofs.Common.{map, take}
use Rattle.toml.specs.View.{view}
use Rattle.lsr_config.specs.Values.{SaysEach}
use Rattle.lsr_config.specs.Documents.{tunnel_rules, SaysTunnel}
use Rattle.lsr_config.proofs.Judging.{AreKept}
use Rattle.lsr_config.proofs.tunnels.read_tunnels.Given as goal

abbrev pub invariant-loop-table : goal.invariant-loop-table
invariant-loop-table l =
    AreKept (tunnel_rules (view l.document)) (map view (take l.table-index l.records)) × SaysEach SaysTunnel (map view (take l.table-index l.records)) l.tunnels.items

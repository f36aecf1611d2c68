-- The records so far are judged, and were read.
use Rattle.std.proofs.Common.{◌≤◌, length, map, take}
use Rattle.toml.specs.View.{view}
use Rattle.lsr_config.specs.Values.{SaysEach}
use Rattle.lsr_config.proofs.Judging.{AreKept}
use Rattle.lsr_serve.specs.Sockets.{SaysSockets, socket_rules}
use Rattle.lsr_serve.proofs.sockets.read_rows.Given as goal

abbrev pub invariant-loop-link : goal.invariant-loop-link
invariant-loop-link l = record {
  kept : AreKept socket_rules (map view (take l.link-index l.links));
  says : SaysEach SaysSockets (map view (take l.link-index l.links)) l.rows.items;
  few : length l.rows.items ≤ 16;
}

-- The lines so far and those of the other ports are all.
use Rattle.std.proofs.Common.{◌≡◌, ◌++◌, drop, string_bytes}
use Rattle.std.specs.List.{enumerate_from, flat_map}
use Rattle.lsr_console.specs.Counters.{port_line}
use Rattle.lsr_console.proofs.counters.push_ports.Given as goal

abbrev pub invariant-loop-place : goal.invariant-loop-place
invariant-loop-place l =
    string_bytes l.text ++ flat_map (port_line l.sockets) (enumerate_from l.place (drop l.place l.counts)) ≡ string_bytes l.fn.text ++ flat_map (port_line l.sockets) (enumerate_from 0 l.counts)

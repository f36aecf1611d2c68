-- So many turns were made, there is room for the rest, the reader has learnt no less, and no segment is missing; the work is that of the
-- name's own router; and the buffer has room before a frame.
use Rattle.std.proofs.Common.{◌≡◌, ◌+◌, ◌≤◌, length, vec_capacity}
use Rattle.interface_workers.specs.Chains.{IsWorkOf}
use Rattle.interface_workers.specs.Turns.{IsRunOf}
use Rattle.interface_workers.proofs.worker.serve_link.Given as goal

abbrev pub invariant-loop-turn : goal.invariant-loop-turn
invariant-loop-turn g l = record {
  run : IsRunOf g.L.CoreName.config l.link l._turn l.initial.port.mark l.initial.reader.seen (g.W.Wire.history l.initial.wire)
      (record { work = l.work; mark = l.port.mark; seen = l.reader.seen; history = g.W.Wire.history l.wire });
  receipts_room : l.turns ≤ vec_capacity l.work.receipts;
  segments_room : l.turns ≤ vec_capacity l.work.segments;
  learnt : l.initial.reader.at_least ≤ l.reader.at_least;
  handed_out : l.port.taken ≡ l.initial.port.taken + length l.work.segments.items;
  own : IsWorkOf g.L.CoreName.config l.work;
  buffer : 32 ≤ length l.buffer.items;
}

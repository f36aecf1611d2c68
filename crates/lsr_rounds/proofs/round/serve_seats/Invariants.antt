-- Each port has room for one event more in each turn, and no more was counted than there were turns; the work is that of the name's own router.
use Rattle.std.proofs.Common.{◌≤◌, length, vec_capacity}
use Rattle.lsr_serve.specs.Below.workers.Chains.{AddsUp, IsWorkOf}
use Rattle.lsr_rounds.proofs.round.serve_seats.Given as goal

abbrev pub invariant-loop-turn : goal.invariant-loop-turn
invariant-loop-turn g l = record {
  clock_receipts : length l.clock.receipts.items ≤ l._turn;
  clock_receipts_room : l.turns ≤ vec_capacity l.clock.receipts;
  clock_segments : length l.clock.segments.items ≤ l._turn;
  clock_segments_room : l.turns ≤ vec_capacity l.clock.segments;
  clock_adds_up : AddsUp l.clock;
  clock_datagrams : l.clock.tally.datagrams ≤ l._turn;
  clock_own : IsWorkOf g.L.CoreName.config l.clock;
  receipts : length l.asked.receipts.items ≤ l._turn;
  receipts_room : l.turns ≤ vec_capacity l.asked.receipts;
  segments : length l.asked.segments.items ≤ l._turn;
  segments_room : l.turns ≤ vec_capacity l.asked.segments;
  adds_up : AddsUp l.asked;
  datagrams : l.asked.tally.datagrams ≤ l._turn;
  own : IsWorkOf g.L.CoreName.config l.asked;
}

-- There is room for one event more in each turn, and no more was counted than there were turns.
use Rattle.std.proofs.Common.{◌≤◌, length, vec_capacity}
use Rattle.lsr_serve.specs.Below.workers.Chains.{AddsUp}
use Rattle.worker_cases.proofs.visits.feed_moments.Given as goal

abbrev pub invariant-loop-turn : goal.invariant-loop-turn
invariant-loop-turn g l = record {
  receipts : length l.work.receipts.items ≤ l.turn;
  receipts_room : l.turns ≤ vec_capacity l.work.receipts;
  segments : length l.work.segments.items ≤ l.turn;
  segments_room : l.turns ≤ vec_capacity l.work.segments;
  adds_up : AddsUp l.work;
  datagrams : l.work.tally.datagrams ≤ l.turn;
}

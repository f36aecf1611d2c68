-- There is room for one event more in each turn, and one was counted in each; the work is that of the name's own router, and
-- its receipts are of the turns' moments.
use Rattle.std.proofs.Common.{◌≡◌, ◌≤◌, length, vec_capacity}
use Rattle.interface_workers.specs.Chains.{AddsUp, IsWorkOf}
use Rattle.lsr_serve.specs.Moments.{AreOfMoments}
use Rattle.lsr_serve.proofs.run.run_clock.Given as goal

abbrev pub invariant-loop-turn : goal.invariant-loop-turn
invariant-loop-turn g l = record {
  receipts : length l.work.receipts.items ≤ l.turn;
  receipts_room : l.turns ≤ vec_capacity l.work.receipts;
  segments : length l.work.segments.items ≤ l.turn;
  segments_room : l.turns ≤ vec_capacity l.work.segments;
  adds_up : AddsUp l.work;
  datagrams : l.work.tally.datagrams ≡ l.turn;
  own : IsWorkOf g.L.CoreName.config l.work;
  moments : AreOfMoments l.turn l.work.receipts.items;
}

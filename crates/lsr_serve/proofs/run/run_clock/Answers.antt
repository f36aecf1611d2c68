-- One moment more is fed.
use Rattle.std.proofs.Common.{◌≡◌, ◌+◌, ◌*◌, ℕ, ap, arith, length, refl, subst, sym}
use Rattle.abstract_paths.specs.declared.events.Event.TheVariants as events
use Rattle.interface_workers.specs.Below.tallies.Tallies.{IsSum}
use Rattle.interface_workers.specs.Below.tallies.declared.handled.Tally.{Tally}
use Rattle.interface_workers.proofs.Naming.{none_own}
use Rattle.interface_workers.proofs.TakenKinds.{fed_or_left}
use Rattle.lsr_serve.specs.declared.run.TheConstants.{TICK_MS}
use Rattle.lsr_serve.proofs.Clocking.{moment_more, no_moments}
use Rattle.lsr_serve.proofs.run.run_clock.Goals as goal

pub loop-turn-init : goal.loop-turn-init
loop-turn-init g c =
    let work = c.in_ok-work.work in
    let made = c.in_ok-work.ensures in
    record {
      receipts = omega (arith, ap length made.none.receipts);
      receipts_room = made.receipts;
      segments = omega (arith, ap length made.none.segments);
      segments_room = made.segments;
      adds_up = subst (λ (t : Tally). IsSum t (length work.receipts.items)) (sym made.none.tally) (record { datagrams = refl; fed = sym (ap length made.none.receipts) });
      datagrams = ap (λ (t : Tally). t.datagrams) made.none.tally;
      own = none_own g.L.CoreName.config work made.none;
      moments = no_moments work.receipts.items made.none.receipts;
    }

pub loop-turn-preserved : goal.loop-turn-preserved
loop-turn-preserved g c =
    let before = c.loop-turn.invariant in
    let done = c.serve_event in
    let served = done.ensures in
    record {
      receipts = omega (arith, before.receipts, served.goes_on.receipts);
      receipts_room = omega (arith, before.receipts_room, served.goes_on.receipts_room);
      segments = omega (arith, before.segments, served.goes_on.segments);
      segments_room = omega (arith, before.segments_room, served.goes_on.segments_room);
      adds_up = served.adds_up;
      datagrams = omega (arith, before.datagrams, served.datagrams);
      own = served.own before.own;
      moments =
          moment_more c.loop-turn.turn (c.loop-turn.turn + 1) ((c.from.result + 1) * TICK_MS) _ _ refl (ap (λ (n : ℕ). (n + 1) * TICK_MS) c.from.ensures)
          (fed_or_left g.L.CoreName.config c.loop-turn.port.mark (events.Tick ((c.from.result + 1) * TICK_MS)) done.result _ _ served.served.frames served.served.sendings served.served.is) before.moments;
    }

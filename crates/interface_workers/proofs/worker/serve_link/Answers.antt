-- Turns that were made, and one more.
use Rattle.std.proofs.Common.{◌++◌, ap, arith, drop, inl, length, length-append, length-take}
use Rattle.interface_workers.proofs.Naming.{none_own}
use Rattle.interface_workers.proofs.Turning.{among_failures, few_of, run_more, run_none, run_turned, run_whole, turn_room}
use Rattle.interface_workers.proofs.worker.serve_link.Goals as goal

pub loop-turn-init : goal.loop-turn-init
loop-turn-init g c = record {
  run = run_none g.L.CoreName.config c.args.link (record { work = c.in-Ok.room.0; mark = c.args.port.now.mark; seen = c.args.reader.seen; history = g.W.Wire.history c.args.wire.now }) c.in-Ok.ensures.none;
  receipts_room = c.in-Ok.ensures.receipts;
  segments_room = c.in-Ok.ensures.segments;
  learnt = omega arith;
  handed_out = omega (arith, ap length c.in-Ok.ensures.none.segments);
  own = none_own g.L.CoreName.config c.in-Ok.room.0 c.in-Ok.ensures.none;
  buffer = c.in-Ok.ensures.buffer;
}

pub turn-reader-requires-clause-room : goal.turn-reader-requires-clause-room
turn-reader-requires-clause-room g c =
    turn_room _ c.args.turns _ _ _ _ (run_turned _ _ _ _ _ _ _ c.loop-turn.invariant.run) (omega arith) (omega arith) c.loop-turn.invariant.receipts_room c.loop-turn.invariant.segments_room

pub turn-reader-requires-clause-turns : goal.turn-reader-requires-clause-turns
turn-reader-requires-clause-turns g c = let had = run_turned _ _ _ _ _ _ _ c.loop-turn.invariant.run in omega (arith, had.made)

pub turn-reader-requires-clause-buffer : goal.turn-reader-requires-clause-buffer
turn-reader-requires-clause-buffer g c = omega (arith, c.loop-turn.invariant.buffer, ap length c.deref_mut.ensures.value)

pub loop-turn-preserved : goal.loop-turn-preserved
loop-turn-preserved g c =
    let before = c.loop-turn.invariant in
    let turn = c.turn-reader.ensures.turn in
    record {
      run = run_more _ _ _ _ _ _ _ _ before.run turn;
      receipts_room = omega (arith, turn.goes_on.receipts_room, before.receipts_room);
      segments_room = omega (arith, turn.goes_on.segments_room, before.segments_room);
      learnt = omega (arith, c.turn-reader.ensures.learnt, before.learnt);
      handed_out = omega (arith, c.turn-reader.ensures.handed_out, before.handed_out);
      own = c.turn-reader.ensures.own before.own;
      buffer =
          let came = c.turn-reader.new.buffer in
          let rest = drop (length came) c.loop-turn.buffer.items in
          omega (arith, before.buffer, c.turn-reader.ensures.buffer, c.deref_mut.ensures.len, ap length c.deref_mut.ensures.value, length-take c.loop-turn.buffer.len (came ++ rest), length-append came rest);
    }

pub returns-then-is_spent-clause-chain : goal.returns-then-is_spent-clause-chain
returns-then-is_spent-clause-chain g c = (run_turned _ _ _ _ _ _ _ c.loop-turn.invariant.run).chain

pub returns-then-is_spent-clause-few : goal.returns-then-is_spent-clause-few
returns-then-is_spent-clause-few g c = few_of _ _ _ _ _ _ (run_turned _ _ _ _ _ _ _ c.loop-turn.invariant.run) (omega arith)

pub returns-then-is_spent-clause-adds_up : goal.returns-then-is_spent-clause-adds_up
returns-then-is_spent-clause-adds_up g c = (run_turned _ _ _ _ _ _ _ c.loop-turn.invariant.run).adds_up

pub returns-then-is_spent-clause-asked : goal.returns-then-is_spent-clause-asked
returns-then-is_spent-clause-asked g c = (run_turned _ _ _ _ _ _ _ c.loop-turn.invariant.run).tally

pub returns-then-is_spent-clause-failures : goal.returns-then-is_spent-clause-failures
returns-then-is_spent-clause-failures g c = among_failures _ _ _ _ (run_turned _ _ _ _ _ _ _ c.loop-turn.invariant.run).tally

pub returns-then-is_spent-clause-run : goal.returns-then-is_spent-clause-run
returns-then-is_spent-clause-run g c = run_whole _ _ _ _ _ _ _ c.loop-turn.invariant.run

pub returns-then-is_spent-clause-later : goal.returns-then-is_spent-clause-later
returns-then-is_spent-clause-later g c = (run_turned _ _ _ _ _ _ _ c.loop-turn.invariant.run).later

pub returns-clause-chain : goal.returns-clause-chain
returns-clause-chain g c = (run_turned _ _ _ _ _ _ _ c.loop-turn.invariant.run).chain

pub returns-clause-few : goal.returns-clause-few
returns-clause-few g c = few_of _ _ _ _ _ _ (run_turned _ _ _ _ _ _ _ c.loop-turn.invariant.run) (omega arith)

pub returns-clause-adds_up : goal.returns-clause-adds_up
returns-clause-adds_up g c = (run_turned _ _ _ _ _ _ _ c.loop-turn.invariant.run).adds_up

pub returns-clause-turns : goal.returns-clause-turns
returns-clause-turns g c = let had = run_turned _ _ _ _ _ _ _ c.loop-turn.invariant.run in inl (omega (arith, had.made))

pub returns-clause-asked : goal.returns-clause-asked
returns-clause-asked g c = (run_turned _ _ _ _ _ _ _ c.loop-turn.invariant.run).tally

pub returns-clause-failures : goal.returns-clause-failures
returns-clause-failures g c = among_failures _ _ _ _ (run_turned _ _ _ _ _ _ _ c.loop-turn.invariant.run).tally

pub returns-clause-run : goal.returns-clause-run
returns-clause-run g c = run_whole _ _ _ _ _ _ _ c.loop-turn.invariant.run

pub returns-clause-later : goal.returns-clause-later
returns-clause-later g c = (run_turned _ _ _ _ _ _ _ c.loop-turn.invariant.run).later

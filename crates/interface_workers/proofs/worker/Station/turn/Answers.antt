-- What was taken is served and counted.
use Rattle.std.proofs.Common.{◌+◌, ◌∷◌, ℕ, List, [], ap, subst, sym, ◌∙◌}
use Rattle.lookup_plane.specs.Changes.{Reader, StartsWith}
use Rattle.lookup_plane.specs.declared.change.TableChange.{TableChange}
use Rattle.interface_workers.specs.Turns.{IsTaken}
use Rattle.interface_workers.specs.Wires.{WireHistory, after, lost_in}
use Rattle.interface_workers.proofs.Counting.{lost_is, tally_is}
use Rattle.interface_workers.proofs.Sendings.{after_twice}
use Rattle.interface_workers.proofs.worker.Station.turn.Goals as goal

pub returns-clause-turn : goal.returns-clause-turn
returns-clause-turn g c =
    let took = c.receive-next.ensures.took in
    let served = c.serve_next-handled.ensures.served took.1 took.2 in
    let on = c.serve_next-handled.ensures.goes_on in
    record {
      arrival = took.0;
      taken = took.1;
      handled = c.serve_next-handled.result;
      frames = served.frames;
      sendings = served.sendings;
      took = subst (λ (s : List TableChange). IsTaken g.L.CoreName.config.router s c.args.link took.0 took.1) (sym c.serve_next-handled.ensures.seen) took.3;
      served = served.is;
      given = served.sent.given;
      history = served.sent.history ∙ ap (λ (x : WireHistory). after x [] served.sendings) took.4 ∙ after_twice (g.W.Wire.history c.args.wire.now) (took.0 ∷ []) [] [] served.sendings;
      tally = tally_is c.args.work.now.tally c.serve_next-handled.new.work.tally c.lose.new.self c.count.new.self c.serve_next-handled.result _ (lost_in served.sendings)
          c.serve_next-handled.ensures.tally.0 c.lose.ensures c.count.ensures
          (lost_is c.failures-failures.result c.failures.result _ _ served.sendings c.failures-failures.ensures c.failures.ensures served.sent.history);
      turns = ap (λ (n : ℕ). n + 1) c.serve_next-handled.ensures.tally.1;
      goes_on = record { chain = on.chain; receipts = on.receipts; segments = on.segments; receipts_room = on.receipts_room; segments_room = on.segments_room };
      full = c.serve_next-handled.ensures.full took.1 took.2;
      seen = subst (λ (s : List TableChange). StartsWith s c.args.reader.seen) (sym c.serve_next-handled.ensures.seen) c.receive-next.ensures.later;
      unlabelled = λ plain. c.serve_next-handled.ensures.seen ∙ ap (λ (r : Reader). r.seen) (took.5 plain);
    }

pub returns-clause-own : goal.returns-clause-own
returns-clause-own g c = λ is. let served = c.serve_next-handled.ensures.own is in record { receipts = served.receipts; segments = served.segments }

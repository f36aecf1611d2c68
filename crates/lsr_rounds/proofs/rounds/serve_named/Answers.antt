-- The last round goes on from those before it.
use Rattle.std.proofs.Common.{◌≡◌, ◌+◌, ap, arith, length}
use Rattle.lsr_rounds.specs.Ended.{IsSoFar}
use Rattle.lsr_rounds.proofs.GoingOn.{moved, told_ports}
use Rattle.lsr_rounds.proofs.rounds.serve_named.Goals as goal

pub returns-clause-run : goal.returns-clause-run
returns-clause-run g c =
    let round = c.add_finished.new.served in
    let workers : length c.in_ok-workers.workers.items ≡ length c.args.links.items = c.in_ok-workers.ensures in
    let ports : length round.ports.items ≡ length c.args.links.items + 2 = omega (arith, ap (λ all. length all.items) c.add_finished.ensures.ports, c.in_ok-so_far.ensures.ports, workers) in
    let so_far : IsSoFar g.L.CoreName.config (length c.args.links.items + 2) c.in_ok-so_far.so_far =
    told_ports g.L.CoreName.config (length c.in_ok-workers.workers.items) (length c.args.links.items) c.in_ok-so_far.so_far workers c.in_ok-so_far.ensures.so_far in
    moved g.L.CoreName.config c.args.config.now (length c.args.links.items + 2) (length round.ports.items) c.in_ok-so_far.so_far c.add.new.self c.requires.config ports c.in_ok-ports.ensures so_far

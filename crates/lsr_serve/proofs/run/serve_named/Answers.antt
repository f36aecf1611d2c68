-- What the threads left and the last segment are of the name's own router.
use Rattle.lsr_serve.proofs.Clocking.{clock_stays}
use Rattle.lsr_serve.proofs.run.serve_named.Goals as goal

pub returns-clause-own : goal.returns-clause-own
returns-clause-own g c = c.in_ok-keeper.ensures.own g.L.CoreName.config c.in_ok-served.ensures.own c.in_ok-finish.ensures.own

pub returns-clause-clock : goal.returns-clause-clock
returns-clause-clock g c = clock_stays c.args.turns _ _ c.in_ok-keeper.ensures.ports c.in_ok-keeper.ensures.receipts c.in_ok-served.ensures.clock

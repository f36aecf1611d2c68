-- What the links' threads and the clock's did is put together.
use Rattle.std.proofs.Common.{rules}
use Rattle.lsr_serve.proofs.Clocking.{clock_put}
use Rattle.lsr_serve.proofs.run.run_threads.Goals as goal

pub returns-clause-own : goal.returns-clause-own
returns-clause-own g c =
    let links = c.in_ok-add_turned.ensures.own g.L.CoreName.config (c.new-served.ensures.own g.L.CoreName.config) (search rules) in
    c.in_ok-add_work.ensures.own g.L.CoreName.config links (search rules)

pub returns-clause-clock : goal.returns-clause-clock
returns-clause-clock g c = clock_put c.args.turns _ _ _ c.in_ok-add_work.ensures.put (search rules) (search rules)

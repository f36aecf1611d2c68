-- What the links' threads did is put together, and what the clock's port and the operator's did.
use Rattle.std.proofs.Common.{rules}
use Rattle.lsr_rounds.proofs.round.run_round.Goals as goal

pub returns-clause-own : goal.returns-clause-own
returns-clause-own g c =
    let links = c.in_ok-add_turned.ensures.own g.L.CoreName.config (c.new-report.ensures.own g.L.CoreName.config) (search rules) in
    let clock = c.in_ok-add_work.ensures.own g.L.CoreName.config links (search rules) in
    c.in_ok-add_work-2.ensures.own g.L.CoreName.config clock (search rules)

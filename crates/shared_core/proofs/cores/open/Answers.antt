-- The readers are of the table of the router beside them.
use Rattle.shared_core.proofs.cores.open.Goals as goal

pub returns-clause-fresh : goal.returns-clause-fresh
returns-clause-fresh g c = (c.in_ok-booked.field-0.booked.locked.table, c.in_ok-booked.ensures.own)

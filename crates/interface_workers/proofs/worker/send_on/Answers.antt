-- What goes on is sent as it leaves, or not, as the wire says.
use Rattle.interface_workers.proofs.Passing.{carried, not_carried, not_given}
use Rattle.interface_workers.proofs.worker.send_on.Goals as goal

pub returns-then-is_spent : goal.returns-then-is_spent
returns-then-is_spent g c = λ frame same. not_given _ frame _ (c.is_spent.ensures.spent c.if-is_spent.true)

pub returns-in-Ok : goal.returns-in-Ok
returns-in-Ok g c = λ frame same. carried _ frame _ _ _ _ _ same c.in-Ok.is c.send.ensures

pub returns-in-Err : goal.returns-in-Err
returns-in-Err g c = λ frame same. not_carried _ frame _ _ _ _ _ same c.in-Err.is c.send.ensures

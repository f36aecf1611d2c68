-- What is answered is answered under the lock, by the journal of the name's own router.
use Rattle.std.proofs.Common.{Ok, Err}
use Rattle.shared_core.proofs.Naming.{answered_by, applied_own, known_now}
use Rattle.shared_core.proofs.booked.Booked.apply.Goals as goal

pub returns-in-Ok-clause-own : goal.returns-in-Ok-clause-own
returns-in-Ok-clause-own g c =
    let booked = c.args.self.now in
    applied_own g.L.CoreName.config booked.locked _ _ c.in-Ok.receipt _ booked.router
    (known_now g.L.CoreName.config booked.locked booked.router booked.opening c.knew.ensures.state c.soundness.ensures) c.in-Ok.ensures.answered.1

pub returns-in-Ok-clause-journal : goal.returns-in-Ok-clause-journal
returns-in-Ok-clause-journal g c =
    let booked = c.args.self.now in
    answered_by g.L.CoreName.config booked.locked c.args.port.now.mark c.args.event.now (Ok c.in-Ok.receipt) _ booked.router booked.opening c.soundness.ensures c.in-Ok.ensures.answered

pub returns-in-Err-clause-journal : goal.returns-in-Err-clause-journal
returns-in-Err-clause-journal g c =
    let booked = c.args.self.now in
    answered_by g.L.CoreName.config booked.locked c.args.port.now.mark c.args.event.now (Err c.in-Err.refusal) _ booked.router booked.opening c.soundness.ensures c.in-Err.ensures.answered

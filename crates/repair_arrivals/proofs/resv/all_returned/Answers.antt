-- Where memory was asked for, a flow descriptor is heard of, and stays so.
use Rattle.abstract_router.specs.Returning.{next_returned}
use Rattle.resv_arrivals.proofs.Hearing.{heard_all, on_err}
use Rattle.repair_arrivals.proofs.Renewals.{still_returned}
use Rattle.repair_arrivals.specs.Progresses.{reached}
use Rattle.repair_arrivals.proofs.resv.all_returned.Goals as goal

pub returns-in_err-progress-clause-memory : goal.returns-in_err-progress-clause-memory
returns-in_err-progress-clause-memory g c =
    let r = g.V.StateView.router c.args.view.now in
    let s = g.V.StateView.state c.args.view.now in
    let v = c.args.resv.now in
    on_err c.from_residual.result _
    (heard_all (next_returned r c.args.style v) (still_returned r c.args.style v) (reached s c.loop-descriptor.progress) c.as_slice-descriptor-items.result.now c.loop-descriptor.descriptor-index c.descriptor-item.result _ c.loop-descriptor-test.true c.descriptor-item.is
    c.in_err-progress.ensures.memory c.loop-descriptor.invariant.leads)

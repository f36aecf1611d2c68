-- All segments are there, in their order.
use Rattle.lsr_serve.proofs.run.add_finished.Goals as goal

pub returns-clause-own : goal.returns-clause-own
returns-clause-own g c = λ setup left last.
    let all = c.in_ok-add_segment.ensures.own setup left last in
    record { receipts = all.receipts; segments = all.segments }

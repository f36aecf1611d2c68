-- A receipt that is kept follows on the one before, and its frames are sent.
use Rattle.std.proofs.Common.{◌++◌, ◌∷◌, [], ap, ◌∙◌}
use Rattle.shared_core.specs.Below.journal.declared.receipt.Receipt.{Receipt}
use Rattle.interface_workers.proofs.Chaining.{receipt_more}
use Rattle.interface_workers.proofs.Naming.{work_more}
use Rattle.interface_workers.proofs.TakenKinds.{event_refused, full_again}
use Rattle.interface_workers.proofs.worker.Station.serve_event.Goals as goal

pub returns-in-Ok-clause-goes_on : goal.returns-in-Ok-clause-goes_on
returns-in-Ok-clause-goes_on g c =
    receipt_more _ _ _ _ c.in-Ok.receipt (c.push_reserved.ensures.items ∙ ap (λ (r : Receipt). c.args.work.now.receipts.items ++ r ∷ []) c.into_receipt.ensures) c.in-Ok.ensures.fed.0 c.in-Ok.ensures.fed.2
    c.in-Ok.ensures.segments c.push_reserved.ensures.capacity c.in-Ok.ensures.room

pub returns-in-Ok-clause-own : goal.returns-in-Ok-clause-own
returns-in-Ok-clause-own g c = work_more g.L.CoreName.config _ _ c.in-Ok.receipt (c.push_reserved.ensures.items ∙ ap (λ (r : Receipt). c.args.work.now.receipts.items ++ r ∷ []) c.into_receipt.ensures) c.in-Ok.ensures.own c.in-Ok.ensures.stays

pub returns-in-Ok-clause-served : goal.returns-in-Ok-clause-served
returns-in-Ok-clause-served g c = record {
  frames = c.as_slice.result.now;
  sendings = c.send_all.ensures.0;
  is = (c.in-Ok.receipt, c.push_reserved.ensures.items ∙ ap (λ (r : Receipt). c.args.work.now.receipts.items ++ r ∷ []) c.into_receipt.ensures, c.in-Ok.ensures.fed.1, c.as_slice.ensures ∙ c.outputs.ensures);
  sent = c.send_all.ensures.1;
}

pub returns-in-Err-clause-served : goal.returns-in-Err-clause-served
returns-in-Err-clause-served g c = event_refused g.L.CoreName.config c.args.port.now.mark c.args.event.now c.in-Err.refusal c.of_refusal.result c.args.work.now.receipts.items _ c.of_refusal.ensures c.in-Err.ensures.fed.1

pub returns-in-Err-clause-own : goal.returns-in-Err-clause-own
returns-in-Err-clause-own g c = λ is. record { receipts = is.receipts; segments = c.in-Err.ensures.stays is.segments }

pub returns-in-Err-clause-full : goal.returns-in-Err-clause-full
returns-in-Err-clause-full g c = full_again c.in-Err.refusal c.of_refusal.result c.args.work.now.segments.items _ c.of_refusal.ensures c.in-Err.ensures.full

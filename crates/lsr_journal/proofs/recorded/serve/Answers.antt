-- A message was served, be there memory for its text or not.
use Rattle.lsr_journal.proofs.Answering.{on_any}
use Rattle.lsr_journal.proofs.recorded.serve.Goals as goal

pub returns-in_err-text-in-Receive-clause-untold : goal.returns-in_err-text-in-Receive-clause-untold
returns-in_err-text-in-Receive-clause-untold g c = on_any c.from_residual.result (rw c.in-Receive.is c.in_err-text-in-Receive.ensures.untold)

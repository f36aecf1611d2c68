use Rattle.std.proofs.Common.{sym, ◌∙◌}
use Rattle.resv_arrivals.proofs.Hearing.{on_err}
use Rattle.resv_arrivals.proofs.granting.next_descriptor.Goals as goal

pub returns-in-Failed-clause-memory : goal.returns-in-Failed-clause-memory
returns-in-Failed-clause-memory g c = on_err c.failed.result _ (λ passed. let h = sym c.in-Failed.ensures ∙ passed in cc)

pub returns-in-Granted-clause-memory : goal.returns-in-Granted-clause-memory
returns-in-Granted-clause-memory g c = on_err c.granted.result _ (λ passed. let h = sym c.in-Granted.ensures.0 ∙ passed in cc)

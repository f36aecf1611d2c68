use Rattle.std.proofs.lemmas.Result.{IfOk-weaker}
use Rattle.lsr_serve.proofs.Telling.{told_serves}
use Rattle.lsr_serve.proofs.serving.tell_served.Goals as goal

pub returns : goal.returns
returns g c = IfOk-weaker c.tell_run.result _ _ (λ status told. told_serves _ _ _ _ _ _ told.0 status told.1 told.2) c.tell_run.ensures

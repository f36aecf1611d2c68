use Rattle.std.proofs.lemmas.Result.{IfOk-weaker}
use Rattle.lsr_config.proofs.Routing.{no_steps, steps_found}
use Rattle.lsr_config.proofs.tunnel_values.steps_in.Goals as goal

pub returns-in-Some : goal.returns-in-Some
returns-in-Some c = IfOk-weaker c.steps_of.result _ _ (λ o found. steps_found _ _ o c.in-Some.ensures found) (rw c.as_slice.ensures.value at c.steps_of.ensures)

pub returns-in-None : goal.returns-in-None
returns-in-None c = no_steps _ c.in-None.ensures

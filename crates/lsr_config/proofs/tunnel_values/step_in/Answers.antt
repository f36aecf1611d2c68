use Rattle.lsr_config.specs.Values.{IsShortStepText, SaysStep}
use Rattle.lsr_config.proofs.Finding.{no_text, text_found}
use Rattle.lsr_config.proofs.tunnel_values.step_in.Goals as goal

pub returns : goal.returns
unfolding SaysStep
returns c = text_found IsShortStepText _ _ _ c.in_ok-as_str.ensures c.step_of.ensures

pub returns-in_err-as_str : goal.returns-in_err-as_str
unfolding SaysStep
returns-in_err-as_str c = rw c.from_residual.ensures (no_text IsShortStepText _ c.in_err-as_str.ensures)

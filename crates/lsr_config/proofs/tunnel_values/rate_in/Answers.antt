use Rattle.lsr_config.specs.Values.{IsDefinedRateText, SaysRate}
use Rattle.lsr_config.proofs.Finding.{no_text, text_found}
use Rattle.lsr_config.proofs.tunnel_values.rate_in.Goals as goal

pub returns : goal.returns
unfolding SaysRate
returns c = text_found IsDefinedRateText _ _ _ c.in_ok-as_str.ensures c.rate_of.ensures

pub returns-in_err-as_str : goal.returns-in_err-as_str
unfolding SaysRate
returns-in_err-as_str c = rw c.from_residual.ensures (no_text IsDefinedRateText _ c.in_err-as_str.ensures)

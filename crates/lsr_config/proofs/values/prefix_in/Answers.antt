use Rattle.lsr_config.specs.Values.{IsMaskedPrefixText, SaysPrefix}
use Rattle.lsr_config.proofs.Finding.{no_text, text_found}
use Rattle.lsr_config.proofs.values.prefix_in.Goals as goal

pub returns : goal.returns
unfolding SaysPrefix
returns c = text_found IsMaskedPrefixText _ _ _ c.in_ok-as_str.ensures c.prefix_of.ensures

pub returns-in_err-as_str : goal.returns-in_err-as_str
unfolding SaysPrefix
returns-in_err-as_str c = rw c.from_residual.ensures (no_text IsMaskedPrefixText _ c.in_err-as_str.ensures)

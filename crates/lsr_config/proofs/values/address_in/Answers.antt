use Rattle.std.specs.Net.Grammar.{IsIpv4Text}
use Rattle.lsr_config.specs.Values.{SaysAddress}
use Rattle.lsr_config.proofs.Finding.{no_text, text_found, parse_found}
use Rattle.lsr_config.proofs.values.address_in.Goals as goal

pub returns : goal.returns
unfolding SaysAddress
returns c = rw c.ok.ensures.value (text_found IsIpv4Text _ _ _ c.in_ok-as_str.ensures (parse_found IsIpv4Text _ _ c.parse.ensures.value))

pub returns-in_err-as_str : goal.returns-in_err-as_str
unfolding SaysAddress
returns-in_err-as_str c = rw c.from_residual.ensures (no_text IsIpv4Text _ c.in_err-as_str.ensures)

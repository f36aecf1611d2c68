use Rattle.std.specs.Net.Grammar.{IsSocketText}
use Rattle.lsr_config.specs.Values.{SaysSocket}
use Rattle.lsr_config.proofs.Finding.{no_text, text_found, parse_found}
use Rattle.lsr_config.proofs.values.socket_in.Goals as goal

pub returns : goal.returns
unfolding SaysSocket
returns c = rw c.ok.ensures.value (text_found IsSocketText _ _ _ c.in_ok-as_str.ensures (parse_found IsSocketText _ _ c.parse.ensures.value))

pub returns-in_err-as_str : goal.returns-in_err-as_str
unfolding SaysSocket
returns-in_err-as_str c = rw c.from_residual.ensures (no_text IsSocketText _ c.in_err-as_str.ensures)

use Rattle.std.proofs.lemmas.Result.{IfOk-weaker}
use Rattle.lsr_config.specs.Values.{IsNameText, SaysName}
use Rattle.lsr_config.proofs.Finding.{no_text, text_found}
use Rattle.lsr_config.proofs.tunnel_values.name_in.Goals as goal

pub returns-in-Some : goal.returns-in-Some
unfolding SaysName
returns-in-Some c = IfOk-weaker c.name_of.result _ _ (λ o found. text_found IsNameText _ _ o c.in-Some.ensures found) c.name_of.ensures

pub returns-in-None : goal.returns-in-None
unfolding SaysName
returns-in-None c = no_text IsNameText _ c.in-None.ensures

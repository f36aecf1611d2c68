-- Only what is wanted upstream is a Resv, and that is made of what is known of its LSP.
use Rattle.label_laws.proofs.Saying.{says_what_is_held}
use Rattle.label_laws.proofs.said.each_resv_says_what_is_held.Goals as goal

pub returns : goal.returns
returns c = says_what_is_held

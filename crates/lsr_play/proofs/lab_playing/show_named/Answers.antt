-- What the router shows is one thing that is done.
use Rattle.std.proofs.Common.{inr, rules}
use Rattle.lsr_play.proofs.LabLaws.{tells_one}
use Rattle.lsr_play.proofs.lab_playing.show_named.Goals as goal

pub returns : goal.returns
returns g c =
    tells_one _ _ _ _ _ _ _ _ (inr (inr (inr c.in_ok-text.ensures))) (search rules) c.in_ok-put_full.ensures

-- The delivery is one thing that is done.
use Rattle.std.proofs.Common.{inl, inr}
use Rattle.lsr_play.proofs.LabLaws.{tells_one}
use Rattle.lsr_play.proofs.lab_playing.deliver.Goals as goal

pub returns : goal.returns
returns g c =
    let made = c.in_ok-deliver_frame.ensures in
    tells_one _ _ _ _ _ _ _ _ (inr (inr (inl (c.args.number, made.2)))) made.1 c.in_ok-put_full.ensures

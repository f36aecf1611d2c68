-- There may be no world; else what acts print in it is printed.
use Rattle.std.proofs.Common.{[], ◌∙◌, inl, inr, refl, subst}
use Rattle.std.proofs.KnownBytes.{Appends-nil}
use Rattle.lsr_play.specs.Labs.{LabActs}
use Rattle.lsr_play.proofs.lab_playing.play_taken.Goals as goal

pub returns-in-Err : goal.returns-in-Err
returns-in-Err g c = ([], Appends-nil _, inl refl)

pub returns : goal.returns
returns g c =
    let tells = c.in_ok-ending.ensures in
    let after = c.take_written.new.lab.world in
    let acts = subst (λ world. LabActs c.args.beginning.now.declared.names tells.count world tells.printed after) (c.new-lab.ensures ∙ c.in-Ok.ensures.opened) tells.acts in
    (tells.printed, tells.told, inr (c.in-Ok.ensures.can, (tells.count, after, acts)))

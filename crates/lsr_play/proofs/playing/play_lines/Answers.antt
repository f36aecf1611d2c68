-- The lines declare a world, or memory ran out before.
use Rattle.std.proofs.Common.{[], inl, inr, refl, subst}
use Rattle.std.proofs.KnownBytes.{Appends-nil}
use Rattle.line_streams.specs.Cuts.{lines_of}
use Rattle.lsr_play.specs.Playing.{EndsOn}
use Rattle.lsr_play.proofs.playing.play_lines.Goals as goal

pub returns-in-Err : goal.returns-in-Err
returns-in-Err g c = ([], Appends-nil _, inl (refl, refl))

pub returns : goal.returns
returns g c =
    let begun = c.in-Ok.ensures in
    let ended = c.in_ok-ending.ensures in
    let moving = lines_of c.in-Ok.beginning.rest.now in
    let ends = subst (λ count. EndsOn c.args.configs.items c.in-Ok.beginning.declared count moving ended.0 c.in_ok-ending.ending) begun.3 ended.2 in
    (ended.0, ended.1, inr (begun.0, moving, c.in-Ok.beginning.declared, begun.1, begun.2, begun.4, ends))

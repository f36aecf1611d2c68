-- The lines declare a world; the first that doesn't may say nothing, or the others are played in it.
use Rattle.std.proofs.Common.{[], inl, refl}
use Rattle.std.proofs.KnownBytes.{Appends-nil}
use Rattle.line_streams.specs.Cuts.{lines_of}
use Rattle.lsr_play.proofs.lab_playing.play_lab.Goals as goal

pub returns-in-Some : goal.returns-in-Some
returns-in-Some g c =
    let begun = c.in_ok-beginning.ensures in
    ([], Appends-nil _, (begun.0, lines_of c.in_ok-beginning.beginning.rest.now, c.in_ok-beginning.beginning.declared, begun.1, begun.2, inl refl))

pub returns : goal.returns
returns g c =
    let begun = c.in_ok-beginning.ensures in
    let ended = c.in_ok-ending.ensures in
    (ended.0, ended.1, (begun.0, lines_of c.in_ok-beginning.beginning.rest.now, c.in_ok-beginning.beginning.declared, begun.1, begun.2, ended.2))

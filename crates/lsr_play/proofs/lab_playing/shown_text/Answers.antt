-- The router shows what it knows, or there is none.
use Rattle.std.proofs.Common.{◌∙◌, ap, refl}
use Rattle.abstract_world.specs.Worlds.{at}
use Rattle.line_streams.specs.Cuts.{lines_of}
use Rattle.lsr_play.specs.Labs.{named_text}
use Rattle.lsr_play.proofs.LabLaws.{shows_at, shows_none}
use Rattle.lsr_play.proofs.lab_playing.shown_text.Goals as goal

pub returns-in_ok-named-in-Some : goal.returns-in_ok-named-in-Some
returns-in_ok-named-in-Some c =
    let there = c.in-Some.ensures ∙ ap (at c.args.world.now) c.place_of-place.ensures in
    let named = c.in_ok-named-in-Some.ensures ∙ ap (λ text. named_text c.args.name.now (lines_of text)) c.as_str.ensures.value in
    (c.args.name.now, c.args.shown.now, shows_at _ _ _ _ _ _ there c.in_ok-text-in-Some.ensures named, refl)

pub returns-in_ok-refused-in-None : goal.returns-in_ok-refused-in-None
returns-in_ok-refused-in-None c =
    let there = c.in-None.ensures ∙ ap (at c.args.world.now) c.place_of-place.ensures in
    (c.args.name.now, c.args.shown.now, shows_none _ _ _ _ there c.in_ok-refused-in-None.ensures, refl)

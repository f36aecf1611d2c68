-- What the first line says, if there is one.
use Rattle.std.proofs.Common.{rules, inl, inr, refl, sym, subst, ap, ◌∙◌, ◌+◌, ◌∷◌}
use Rattle.line_streams.proofs.CutLaws.{lines_of-nil}
use Rattle.line_streams.specs.Cuts.{lines_of}
use Rattle.lsr_lines.proofs.Stepping.{none_by}
use Rattle.lsr_play.specs.Moving.{SaysNoMove}
use Rattle.lsr_play.specs.Playing.{CanBegin, HoldsUp}
use Rattle.lsr_play.specs.declared.endings.PlayEnding.TheVariants as endings
use Rattle.lsr_play.proofs.playing.held_up.Goals as goal

pub returns-in_default : goal.returns-in_default
returns-in_default c =
    let none = c.next_line.ensures.end.0 (none_by c.next_line.result c.in_default.not-Some) in
    subst (CanBegin c.args.declared.now.names) (sym (ap lines_of none ∙ lines_of-nil)) tt

pub returns-in-Ok-Some : goal.returns-in-Ok-Some
returns-in-Ok-Some c =
    subst (CanBegin c.args.declared.now.names) (sym c.in-Some.ensures.line) (c.in-Ok-Some._said, rw c.in-Ok-Some.field-0-is at c.in-Ok-Some.ensures)

pub returns-in-Ok-None : goal.returns-in-Ok-None
returns-in-Ok-None c =
    let says : SaysNoMove c.args.declared.now.names c.in-Some.line.now = search rules in
    subst (λ lines. HoldsUp c.args.declared.now.names c.args.count lines (endings.BadLine (c.args.count + 1) c.in-Some.line)) (sym c.in-Some.ensures.line) (inl (refl, refl, says))

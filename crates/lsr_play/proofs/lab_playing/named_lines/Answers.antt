-- The lines before the rest stand there; the next one does too.
use Rattle.std.proofs.Common.{rules}
use Rattle.lsr_lines.proofs.Stepping.{none_by}
use Rattle.lsr_play.proofs.LabLaws.{named_all, named_more}
use Rattle.lsr_play.proofs.lab_playing.named_lines.Goals as goal

pub loop-line-preserved : goal.loop-line-preserved
loop-line-preserved c =
    named_more c.args.name.now c.args.text.now c.loop-line.rest.now c.in-Some.line.now c.in-Some.others.now _ _ c.loop-line.invariant c.in-Some.ensures.line (search rules) (search rules)

pub returns : goal.returns
returns c =
    let none = c.next_line.ensures.end.0 (none_by c.next_line.result c.in_default.not-Some) in
    named_all c.args.name.now c.args.text.now c.loop-line.rest.now _ c.loop-line.invariant none

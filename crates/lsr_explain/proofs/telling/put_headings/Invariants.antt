-- The lines before the rest have their text.
use Rattle.std.proofs.Common.{length}
use Rattle.lsr_explain.specs.Answers.{headings_text}
use Rattle.lsr_explain.proofs.TopicLaws.{IsPrintedTo}
use Rattle.lsr_explain.proofs.telling.put_headings.Given as goal

abbrev pub invariant-loop-line : goal.invariant-loop-line
invariant-loop-line g l = IsPrintedTo headings_text l.text (g.W.Write.contents l.fn.output) (g.W.Write.contents l.output) l.rest

abbrev pub decreases-loop-line : goal.decreases-loop-line
decreases-loop-line g l = length l.rest

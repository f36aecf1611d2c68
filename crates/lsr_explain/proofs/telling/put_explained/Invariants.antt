-- The lines before the rest have their text.
use Rattle.std.proofs.Common.{length}
use Rattle.lsr_explain.specs.Answers.{explained}
use Rattle.lsr_explain.proofs.TopicLaws.{IsPrintedTo}
use Rattle.lsr_explain.proofs.telling.put_explained.Given as goal

abbrev pub invariant-loop-line : goal.invariant-loop-line
invariant-loop-line g l = IsPrintedTo explained l.text (g.W.Write.contents l.fn.output) (g.W.Write.contents l.output) l.rest

abbrev pub decreases-loop-line : goal.decreases-loop-line
decreases-loop-line g l = length l.rest

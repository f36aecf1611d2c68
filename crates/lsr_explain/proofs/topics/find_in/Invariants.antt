-- The topic is still among the lines that are left.
use Rattle.std.proofs.Common.{length}
use Rattle.lsr_explain.specs.Topics.{text_of}
use Rattle.lsr_explain.proofs.TopicLaws.{IsSought}
use Rattle.lsr_explain.proofs.topics.find_in.Given as goal

abbrev pub invariant-loop-line : goal.invariant-loop-line
invariant-loop-line l = IsSought l.any_case l.kind l.word (text_of l.kind) l.rest

abbrev pub decreases-loop-line : goal.decreases-loop-line
decreases-loop-line l = length l.rest

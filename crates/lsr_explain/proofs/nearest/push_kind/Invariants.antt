-- The headings before the rest were appended.
use Rattle.std.proofs.Common.{length}
use Rattle.lsr_explain.specs.Topics.{text_of}
use Rattle.lsr_explain.proofs.Nearness.{IsPushedTo}
use Rattle.lsr_explain.proofs.nearest.push_kind.Given as goal

abbrev pub invariant-loop-line : goal.invariant-loop-line
invariant-loop-line l = IsPushedTo l.kind l.word l.fn.near.items l.near.items (text_of l.kind) l.rest

abbrev pub decreases-loop-line : goal.decreases-loop-line
decreases-loop-line l = length l.rest

-- The lines before the rest declare what is declared.
use Rattle.std.proofs.Common.{length}
use Rattle.lsr_play.proofs.DeclaringLaws.{IsDeclaredTo}
use Rattle.lsr_play.proofs.declared.declare_all.Given as goal

abbrev pub invariant-loop-line : goal.invariant-loop-line
invariant-loop-line l = IsDeclaredTo l.text l.rest l.count l.declared

abbrev pub decreases-loop-line : goal.decreases-loop-line
decreases-loop-line l = length l.rest

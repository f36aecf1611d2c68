-- The lines before the rest declare what is declared, and remarks are among them.
use Rattle.std.proofs.Common.{length}
use Rattle.lsr_play.proofs.LabLaws.{IsAmongTo}
use Rattle.lsr_play.proofs.lab_playing.declare_lab.Given as goal

abbrev pub invariant-loop-line : goal.invariant-loop-line
invariant-loop-line l = IsAmongTo l.text l.rest l.count l.declared

abbrev pub decreases-loop-line : goal.decreases-loop-line
decreases-loop-line l = length l.rest

-- The lines before the rest stand there, with the name before each.
use Rattle.std.proofs.Common.{length, string_bytes}
use Rattle.lsr_play.proofs.LabLaws.{IsNamedTo}
use Rattle.lsr_play.proofs.lab_playing.named_lines.Given as goal

abbrev pub invariant-loop-line : goal.invariant-loop-line
invariant-loop-line l = IsNamedTo l.name l.text l.rest (string_bytes l.named)

abbrev pub decreases-loop-line : goal.decreases-loop-line
decreases-loop-line l = length l.rest

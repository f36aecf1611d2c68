-- The files are still among the lines that are left.
use Rattle.std.proofs.Common.{length}
use Rattle.world_lines.proofs.NamedLaws.{IsLeft}
use Rattle.world_lines.proofs.named.next_file.Given as goal

abbrev pub invariant-loop-line : goal.invariant-loop-line
invariant-loop-line l = IsLeft l.text l.rest

abbrev pub decreases-loop-line : goal.decreases-loop-line
decreases-loop-line l = length l.rest

-- The lines before the rest were played.
use Rattle.std.proofs.Common.{length}
use Rattle.std.specs.Io.KnownBytes.{append_known}
use Rattle.lsr_play.proofs.PlayLaws.{IsPlayedTo}
use Rattle.lsr_play.proofs.playing.move_all.Given as goal

abbrev pub invariant-loop-line : goal.invariant-loop-line
invariant-loop-line g l =
    IsPlayedTo l.beginning.declared.names l.fn.world l.beginning.rest.now (append_known (g.W.Write.contents l.fn.output) l.fn.block.items) (append_known (g.W.Write.contents l.output) l.block.items) l.rest l.beginning.count l.number l.world

abbrev pub decreases-loop-line : goal.decreases-loop-line
decreases-loop-line g l = length l.rest

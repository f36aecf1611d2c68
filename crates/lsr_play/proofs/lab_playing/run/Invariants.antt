-- What was done so far.
use Rattle.std.specs.Io.KnownBytes.{append_known}
use Rattle.lsr_play.specs.Labs.{LabTells}
use Rattle.lsr_play.proofs.lab_playing.run.Given as goal

abbrev pub invariant-loop-turn : goal.invariant-loop-turn
invariant-loop-turn g l =
    LabTells l.declared.names l.fn.lab.world (append_known (g.W.Write.contents l.fn.output) l.fn.block.items) (append_known (g.W.Write.contents l.output) l.block.items) l.lab.world

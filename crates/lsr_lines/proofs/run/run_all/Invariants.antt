-- The lines before the rest were served, each while the session wasn't over.
use Rattle.std.proofs.Common.{length}
use Rattle.std.specs.Io.KnownBytes.{append_known}
use Rattle.lsr_lines.specs.Runs.{answers_while}
use Rattle.lsr_lines.proofs.Stepping.{IsSteppedTo}
use Rattle.lsr_lines.proofs.run.run_all.Given as goal

abbrev pub invariant-lines : goal.invariant-lines
invariant-lines g l =
    IsSteppedTo (answers_while g.S.Serves.serves g.S.Serves.over) l.fn.echo l.fn.session l.text (append_known (g.W.Write.contents l.fn.output) l.fn.block.items) (append_known (g.W.Write.contents l.output) l.block.items) l.rest l.number l.session

abbrev pub decreases-lines : goal.decreases-lines
decreases-lines g l = length l.rest

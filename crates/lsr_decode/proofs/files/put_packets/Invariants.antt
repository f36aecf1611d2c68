-- The messages of the packets so far were printed.
use Rattle.std.proofs.Common.{length}
use Rattle.capture_files.specs.Captures.{rest_of}
use Rattle.lsr_decode.proofs.FileLaws.{IsShown}
use Rattle.lsr_decode.proofs.files.put_packets.Given as goal

abbrev pub invariant-loop-next : goal.invariant-loop-next
invariant-loop-next g l = IsShown l.fields l.file l.initial.capture l.capture (g.W.Write.contents l.fn.output) (g.W.Write.contents l.output) l.refused l.counts

abbrev pub decreases-loop-next : goal.decreases-loop-next
decreases-loop-next g l = length (rest_of l.capture)

-- So far the stream was read, and its lines were answered.
use Rattle.line_streams.specs.Streams.{left_of}
use Rattle.lsr_decode.proofs.Capturing.{IsCaptured}
use Rattle.lsr_decode.proofs.capture.decode_lines.Given as goal

abbrev pub invariant-lines : goal.invariant-lines
invariant-lines g l =
    IsCaptured l.fields (g.S.ByteStream.stream l.fn.input) (g.S.ByteStream.stream l.input) (g.W.Write.contents l.fn.output) (g.W.Write.contents l.output) (left_of l.reader) l.count l.refused

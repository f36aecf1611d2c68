-- So far the input was read, and its lines were served.
use Rattle.line_streams.specs.Streams.{left_of}
use Rattle.lsr_lines.proofs.Living.{IsLiveTo}
use Rattle.lsr_lines.proofs.live.serve_lines.Given as goal

abbrev pub invariant-lines : goal.invariant-lines
invariant-lines g l =
    IsLiveTo g.A.Answers.answers l.echo l.fn.session (g.S.ByteStream.stream l.fn.input) (g.S.ByteStream.stream l.input) (g.W.Write.contents l.fn.output) (g.W.Write.contents l.output) (g.E.Write.contents l.fn.error)
    (g.E.Write.contents l.error) (left_of l.reader) l.count l.bad l.session

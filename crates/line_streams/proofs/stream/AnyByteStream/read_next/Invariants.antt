-- An interrupted read leaves the bytes as they were.
use Rattle.std.specs.Io.KnownBytes.{Keeps}
use Rattle.line_streams.proofs.stream.AnyByteStream.read_next.Given as goal

abbrev pub invariant-loop : goal.invariant-loop
invariant-loop g l = Keeps (g.R.Read.remaining l.fn.self) (g.R.Read.remaining l.self)

-- All that came is in the line, or is left.
use Rattle.std.proofs.Common.{◌+◌, ◌-◌, length}
use Rattle.line_streams.specs.Streams.{left_of}
use Rattle.line_streams.proofs.Reading.{IsReadTo}
use Rattle.line_streams.proofs.reader.LineReader.read_line.Given as goal

abbrev pub invariant-reads : goal.invariant-reads
invariant-reads g l = IsReadTo (g.S.ByteStream.stream l.fn.input) (g.S.ByteStream.stream l.input) (left_of l.fn.self) l.line.items (left_of l.self)

-- Each read but the first gives the line a byte or more.
abbrev pub decreases-reads : goal.decreases-reads
decreases-reads g l = (16777216 - length l.line.items) + (16777216 - length l.line.items) + (1 - length (left_of l.self))

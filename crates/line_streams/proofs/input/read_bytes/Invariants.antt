-- What was read stands in front of what is left, and has a byte or more for each read.
use Rattle.std.proofs.Common.{◌≡◌, ◌≤◌, true, length}
use Rattle.std.specs.Io.KnownBytes.{Consumes}
use Rattle.line_streams.proofs.input.read_bytes.Given as goal

abbrev pub invariant-loop : goal.invariant-loop
invariant-loop g l =
    (length l.bytes.items ≤ 16777216) × (1 ≤ length l.chunk.items) × Consumes (g.S.ByteStream.stream l.fn.input).bytes (g.S.ByteStream.stream l.input).bytes l.bytes.items
    × ((g.S.ByteStream.stream l.input).may_break ≡ true → (g.S.ByteStream.stream l.fn.input).may_break ≡ true)
    × (l.counter ≤ length l.bytes.items)

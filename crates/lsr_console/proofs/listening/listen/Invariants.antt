-- Few bytes came that were given in no line yet.
use Rattle.std.proofs.Common.{◌≤◌, length}
use Rattle.line_streams.specs.Streams.{left_of}
use Rattle.lsr_console.proofs.listening.listen.Given as goal

abbrev pub invariant-lines : goal.invariant-lines
invariant-lines g l = length (left_of l.reader) ≤ 65536

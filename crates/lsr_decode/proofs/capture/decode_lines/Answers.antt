-- Each line that comes is answered, or none comes.
use Rattle.std.proofs.Common.{arith, refl, subst, sym, ◌≤◌, ◌+◌, length, List, ℕ}
use Rattle.line_streams.specs.Streams.{left_of}
use Rattle.lsr_decode.proofs.Capturing.{captured_all, captured_last, captured_line, captured_most, captured_none, captured_some}
use Rattle.lsr_decode.proofs.capture.decode_lines.Goals as goal

pub lines-init : goal.lines-init
lines-init g c = captured_none (g.S.ByteStream.stream c.args.input.now) (g.W.Write.contents c.args.output.now) (left_of c.new-reader.result) c.new-reader.ensures (subst (λ (l : List ℕ). length l ≤ 65536) (sym c.new-reader.ensures) (omega arith))

pub returns-in-Err : goal.returns-in-Err
returns-in-Err g c =
    rw c.ending_of.ensures
    (captured_some (g.S.ByteStream.stream c.args.input.now) (g.S.ByteStream.stream c.lines.input) (g.S.ByteStream.stream c.read_line.new.input) _ _ (left_of c.lines.reader) c.read_line.new.line.items (left_of c.read_line.new.self) c.lines.count c.lines.refused c.in-Err.fault
    c.lines.invariant c.in-Err.ensures.breaks c.in-Err.ensures.finds)

pub returns-in-End : goal.returns-in-End
returns-in-End g c =
    captured_all (g.S.ByteStream.stream c.args.input.now) (g.S.ByteStream.stream c.lines.input) (g.S.ByteStream.stream c.read_line.new.input) _ _ (left_of c.lines.reader) c.read_line.new.line.items (left_of c.read_line.new.self) c.lines.count c.lines.refused c.in-Ok.found
    c.lines.invariant c.in-Ok.ensures.finds c.in-End.is

pub returns-in-LastLine : goal.returns-in-LastLine
returns-in-LastLine g c =
    captured_last (g.S.ByteStream.stream c.args.input.now) (g.S.ByteStream.stream c.lines.input) (g.S.ByteStream.stream c.read_line.new.input) _ _ _ (left_of c.lines.reader) c.read_line.new.line.items c.as_slice.result.now (left_of c.read_line.new.self) c.lines.count (c.lines.count + 1)
    c.lines.refused c.in_ok-is_bad.is_bad c.in-Ok.found c.lines.invariant c.in-Ok.ensures.finds c.in-LastLine.is refl c.as_slice.ensures.value c.in_ok-is_bad.ensures

pub lines-preserved : goal.lines-preserved
lines-preserved g c =
    captured_line (g.S.ByteStream.stream c.args.input.now) (g.S.ByteStream.stream c.lines.input) (g.S.ByteStream.stream c.read_line.new.input) _ _ _ (left_of c.lines.reader) c.read_line.new.line.items c.as_slice.result.now (left_of c.read_line.new.self) c.lines.count (c.lines.count + 1)
    c.lines.refused c.in_ok-is_bad.is_bad c.in-Ok.found c.lines.invariant c.in-Ok.ensures.breaks c.in-Ok.ensures.finds c.in_default.not-End c.in_default-found.not-LastLine refl c.as_slice.ensures.value c.in_ok-is_bad.ensures

pub returns : goal.returns
returns g c = captured_most (g.S.ByteStream.stream c.args.input.now) (g.S.ByteStream.stream c.lines.input) _ _ (left_of c.lines.reader) c.lines.count c.lines.refused c.lines.invariant (omega (arith, c.lines-test.false))

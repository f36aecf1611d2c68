-- Each line that comes is served, or ends the run.
use Rattle.std.proofs.Common.{arith, ◌∙◌, ◌+◌, refl}
use Rattle.line_streams.specs.Streams.{left_of}
use Rattle.lsr_lines.proofs.Living.{live_all, live_full, live_last, live_more, live_most, live_none, live_unread, live_untext}
use Rattle.lsr_lines.proofs.live.serve_lines.Goals as goal

pub lines-init : goal.lines-init
lines-init g c = live_none g.A.Answers.answers c.args.echo c.args.session _ _ _ (left_of c.new-reader.result) c.new-reader.ensures

pub returns-in-Err : goal.returns-in-Err
returns-in-Err g c =
    live_unread g.A.Answers.answers c.args.echo c.args.session (g.S.ByteStream.stream c.args.input.now) (g.S.ByteStream.stream c.lines.input) (g.S.ByteStream.stream c.read_line.new.input) _ _ _ _ (left_of c.lines.reader) c.read_line.new.line.items (left_of c.read_line.new.self)
    c.lines.count c.lines.bad c.lines.session c.in-Err.fault c.lines.invariant c.in-Err.ensures.breaks c.in-Err.ensures.finds

pub returns-in-End : goal.returns-in-End
returns-in-End g c =
    live_all g.A.Answers.answers c.args.echo c.args.session (g.S.ByteStream.stream c.args.input.now) (g.S.ByteStream.stream c.lines.input) (g.S.ByteStream.stream c.read_line.new.input) _ _ _ _ (left_of c.lines.reader) c.read_line.new.line.items (left_of c.read_line.new.self)
    c.lines.count c.lines.bad c.lines.session c.in-Ok.found c.lines.invariant c.in-Ok.ensures.finds c.in-End.is

pub returns-in-Err-from_utf8 : goal.returns-in-Err-from_utf8
returns-in-Err-from_utf8 g c =
    live_untext g.A.Answers.answers c.args.echo c.args.session (g.S.ByteStream.stream c.args.input.now) (g.S.ByteStream.stream c.lines.input) (g.S.ByteStream.stream c.read_line.new.input) _ _ _ _ (left_of c.lines.reader) c.read_line.new.line.items c.as_slice.result.now
    (left_of c.read_line.new.self) c.lines.count (c.lines.count + 1) c.valid_up_to.result c.lines.bad c.lines.session c.in-Ok.found c.lines.invariant c.in-Ok.ensures.breaks c.in-Ok.ensures.finds c.in_default.not-End c.as_slice.ensures.value refl
    (c.in-Err-from_utf8.ensures.cases.0, c.valid_up_to.ensures ∙ c.in-Err-from_utf8.ensures.valid_len)

pub returns-in-Memory : goal.returns-in-Memory
returns-in-Memory g c =
    let became = c.in_ok-next.ensures in
    live_full g.A.Answers.answers c.args.echo c.args.session (g.S.ByteStream.stream c.args.input.now) (g.S.ByteStream.stream c.lines.input) (g.S.ByteStream.stream c.read_line.new.input) _ _ _ _ _ _ (left_of c.lines.reader) c.read_line.new.line.items c.in-Ok-from_utf8.text.now
    (left_of c.read_line.new.self) c.lines.count (c.lines.count + 1) c.lines.bad c.lines.session c.in-Ok.found c.in_ok-next.served became.0 became.1 c.in_ok-next.next c.lines.invariant c.in-Ok.ensures.breaks c.in-Ok.ensures.finds c.in_default.not-End
    (c.in-Ok-from_utf8.ensures.cases.0 ∙ c.as_slice.ensures.value) c.in-Memory.is became.2 became.3 became.4

pub returns-in-LastLine : goal.returns-in-LastLine
returns-in-LastLine g c =
    let became = c.in_ok-next.ensures in
    rw c.is_told-bad.ensures
    (live_last g.A.Answers.answers c.args.echo c.args.session (g.S.ByteStream.stream c.args.input.now) (g.S.ByteStream.stream c.lines.input) (g.S.ByteStream.stream c.read_line.new.input) _ _ _ _ _ _ (left_of c.lines.reader) c.read_line.new.line.items c.in-Ok-from_utf8.text.now
    (left_of c.read_line.new.self) c.lines.count (c.lines.count + 1) c.lines.bad c.lines.session c.in-Ok.found c.in_ok-next.served became.0 became.1 c.in_ok-next.next c.lines.invariant c.in-Ok.ensures.finds c.in-LastLine.is
    (c.in-Ok-from_utf8.ensures.cases.0 ∙ c.as_slice.ensures.value) refl c.in_default-served.not-Memory became.2 became.3 became.4)

pub lines-preserved : goal.lines-preserved
lines-preserved g c =
    let became = c.in_ok-next.ensures in
    rw c.is_told-bad.ensures
    (live_more g.A.Answers.answers c.args.echo c.args.session (g.S.ByteStream.stream c.args.input.now) (g.S.ByteStream.stream c.lines.input) (g.S.ByteStream.stream c.read_line.new.input) _ _ _ _ _ _ (left_of c.lines.reader) c.read_line.new.line.items c.in-Ok-from_utf8.text.now
    (left_of c.read_line.new.self) c.lines.count (c.lines.count + 1) c.lines.bad c.lines.session c.in-Ok.found c.in_ok-next.served became.0 became.1 c.in_ok-next.next c.lines.invariant c.in-Ok.ensures.breaks c.in-Ok.ensures.finds c.in_default.not-End c.in_default-found.not-LastLine
    (c.in-Ok-from_utf8.ensures.cases.0 ∙ c.as_slice.ensures.value) refl c.in_default-served.not-Memory became.2 became.3 became.4)

pub returns : goal.returns
returns g c =
    live_most g.A.Answers.answers c.args.echo c.args.session (g.S.ByteStream.stream c.args.input.now) (g.S.ByteStream.stream c.lines.input) _ _ _ _ (left_of c.lines.reader) c.lines.count c.lines.bad c.lines.session c.lines.invariant (omega (arith, c.lines-test.false))

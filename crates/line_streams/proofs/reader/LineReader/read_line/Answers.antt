-- What is left goes onto the line; where that ends no line more is read.
use Rattle.std.proofs.Common.{rules, sym, ◌∙◌}
use Rattle.std.proofs.lemmas.Result.{err_from_is_err_and}
use Rattle.line_streams.specs.Streams.{left_of}
use Rattle.line_streams.proofs.Reading.{found_broken, found_last, found_line, found_short, read_on}
use Rattle.line_streams.proofs.reader.LineReader.read_line.Goals as goal

pub returns-in_err-take_line-clause-finds : goal.returns-in_err-take_line-clause-finds
returns-in_err-take_line-clause-finds g c =
    let p = err_from_is_err_and c.from_residual.result c.from_residual.ensures.1 in
    rw (p.1, p.2) (found_short _ _ (left_of c.args.self.now) c.reads.line.items (left_of c.reads.self) c.take_line.new.line.items (left_of c.take_line.new.self) _ c.reads.invariant c.in_err-take_line.ensures.fault)

pub returns-then-branch-clause-finds : goal.returns-then-branch-clause-finds
returns-then-branch-clause-finds g c =
    let taken = rw c.if-branch.true at c.in_ok-take_line.ensures.front in
    found_line _ _ (left_of c.args.self.now) c.reads.line.items (left_of c.reads.self) taken.0 _ _ c.reads.invariant taken.1 taken.2 taken.3 c.in_ok-take_line.ensures.short

pub returns-in_err-read_more-clause-finds : goal.returns-in_err-read_more-clause-finds
returns-in_err-read_more-clause-finds g c =
    let p = err_from_is_err_and c.from_residual-in_err-read_more.result c.from_residual-in_err-read_more.ensures.1 in
    rw (p.1, p.2) (found_broken _ (g.S.ByteStream.stream c.reads.input) (g.S.ByteStream.stream c.read_more.new.input) (left_of c.args.self.now) c.reads.line.items (left_of c.reads.self) c.take_line.new.line.items c.take_line.new.line.items (left_of c.read_more.new.self) _ c.reads.invariant (rw c.if-branch.false at c.in_ok-take_line.ensures.front) c.in_ok-take_line.ensures.short c.in_err-read_more.ensures.kept c.in_err-read_more.ensures.fault)

pub returns-else-is_empty-clause-finds : goal.returns-else-is_empty-clause-finds
returns-else-is_empty-clause-finds g c =
    found_last _ (g.S.ByteStream.stream c.reads.input) (g.S.ByteStream.stream c.read_more.new.input) (left_of c.args.self.now) c.reads.line.items (left_of c.reads.self) c.take_line.new.line.items (left_of c.read_more.new.self) (left_of c.read_more.new.self) c.reads.invariant (rw c.if-branch.false at c.in_ok-take_line.ensures.front) c.in_ok-take_line.ensures.short c.in_ok-read_more.ensures.bytes (sym c.in_ok-read_more.ensures.count ∙ c.if-branch-eq0.true) (c.in_ok-read_more.ensures.end c.if-branch-eq0.true) (search rules)

pub reads-preserved : goal.reads-preserved
reads-preserved g c =
    read_on _ _ _ (left_of c.args.self.now) c.reads.line.items (left_of c.reads.self) c.take_line.new.line.items (left_of c.read_more.new.self) c.reads.invariant (rw c.if-branch.false at c.in_ok-take_line.ensures.front) c.in_ok-take_line.ensures.short c.in_ok-read_more.ensures.bytes c.in_ok-read_more.ensures.breaks c.in_ok-read_more.ensures.few

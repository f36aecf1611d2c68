-- What a reader found is handed over.
use Rattle.std.proofs.Common.{◌∙◌, sym}
use Rattle.line_streams.specs.Streams.{left_of}
use Rattle.lsr_console.proofs.Hearing.{few_left}
use Rattle.lsr_console.proofs.listening.next_heard.Goals as goal

pub returns-clause-hears : goal.returns-clause-hears
returns-clause-hears g c = record {
  line = c.read_line-found.new.line.items;
  found = c.read_line-found.result;
  finds = c.read_line-found.ensures.finds;
  is = c.heard_of.ensures;
  ends = c.is_last.ensures;
}

pub returns-clause-few : goal.returns-clause-few
returns-clause-few g c = λ more.
    few_left (g.S.ByteStream.stream c.args.input.now) (g.S.ByteStream.stream c.read_line-found.new.input) (left_of c.args.reader.now) c.read_line-found.new.line.items (left_of c.read_line-found.new.self) c.read_line-found.result
    c.read_line-found.ensures.finds (sym c.is_last.ensures ∙ more)

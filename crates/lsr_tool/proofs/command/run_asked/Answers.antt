-- A word that is decoded, or words that are explained: what was asked for is that.
use Rattle.std.proofs.Common.{◌≡◌, IfOk, subst, sym}
use Rattle.lsr_words.specs.declared.words.Asked.{Asked}
use Rattle.lsr_tool.specs.Commands.{Does}
use Rattle.lsr_tool.proofs.Explaining.{explained_so}
use Rattle.lsr_tool.proofs.command.run_asked.Goals as goal

pub returns-in-Decode : goal.returns-in-Decode
returns-in-Decode g c =
    subst (λ (asked : Asked). IfOk c.run_decode_on.result (Does (g.F.FilesByName.opens c.args.files.now) (g.F.FilesByName.fails c.args.files.now) g.F.File.ByteStream.stream (g.F.WritesFiles.holds c.args.files.now) asked
    (g.R.ByteStream.stream c.args.input.now) (g.R.ByteStream.stream c.run_decode_on.new.input) (g.W.Write.contents c.args.output.now) (g.W.Write.contents c.run_decode_on.new.output)
    (g.E.Write.contents c.args.error.now) (g.E.Write.contents c.run_decode_on.new.error))) (sym c.in-Decode.is) c.run_decode_on.ensures

pub returns-in-Explain : goal.returns-in-Explain
returns-in-Explain g c =
    let same : c.as_slice.result.now ≡ c.in-Explain.words.items = let t = c.as_slice.ensures.value in cc in
    let input = g.R.ByteStream.stream c.args.input.now in
    subst (λ (asked : Asked). IfOk c.run_explain.result (Does (g.F.FilesByName.opens c.args.files.now) (g.F.FilesByName.fails c.args.files.now) g.F.File.ByteStream.stream (g.F.WritesFiles.holds c.args.files.now) asked
    input input (g.W.Write.contents c.args.output.now) (g.W.Write.contents c.run_explain.new.output)
    (g.E.Write.contents c.args.error.now) (g.E.Write.contents c.run_explain.new.error))) (sym c.in-Explain.is)
    (explained_so c.run_explain.result c.as_slice.result.now c.in-Explain.words.items input (g.W.Write.contents c.args.output.now) (g.W.Write.contents c.run_explain.new.output)
    (g.E.Write.contents c.args.error.now) (g.E.Write.contents c.run_explain.new.error) same c.run_explain.ensures)

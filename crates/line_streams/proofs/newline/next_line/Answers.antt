-- Where there is a newline the text is cut there, and else it is one line.
use Rattle.std.proofs.Common.{rules, arith, ap, ◌∙◌, Some, None}
use Rattle.std.proofs.lemmas.Str.Pattern.{split_parts}
use Rattle.line_streams.specs.Cuts.{lines_of}
use Rattle.line_streams.proofs.CutLaws.{lines_cut, lines_last}
use Rattle.line_streams.proofs.newline.next_line.Goals as goal

pub returns-in-Some-clause-line : goal.returns-in-Some-clause-line
returns-in-Some-clause-line c =
    let parts = split_parts 10 c.args.text.now (Some (c.in-Some.line, c.in-Some.rest)) c.in-Some.ensures.cases (omega arith) in
    ap lines_of parts.0 ∙ lines_cut c.in-Some.line.now c.in-Some.rest.now parts.1

pub returns-in-None-clause-line : goal.returns-in-None-clause-line
returns-in-None-clause-line c =
    lines_last c.args.text.now (search rules) (split_parts 10 c.args.text.now None c.in-None.ensures.cases (omega arith))

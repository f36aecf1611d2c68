-- One more line has its text.
use Rattle.std.proofs.Common.{rules, ap, ◌∙◌, ◌++◌, subst}
use Rattle.std.specs.Io.KnownBytes.{Appends}
use Rattle.std.proofs.KnownBytes.{Appends-trans}
use Rattle.line_streams.specs.Cuts.{lines_of}
use Rattle.lsr_explain.specs.Answers.{heading_line, headings_text}
use Rattle.lsr_explain.proofs.TopicLaws.{no_lines, none_by, parts_all, parts_more}
use Rattle.lsr_explain.proofs.telling.put_headings.Goals as goal

pub loop-line-preserved : goal.loop-line-preserved
loop-line-preserved g c =
    let before = c.loop-line.invariant in
    let line = heading_line c.in-Some.line.now in
    record {
      printed = before.printed ++ line;
      grown = Appends-trans _ _ _ _ _ before.grown c.in_ok-put_heading.ensures;
      parts = parts_more _ before.printed line (headings_text (lines_of c.loop-line.rest.now)) (headings_text (lines_of c.in-Some.behind.now)) before.parts (ap headings_text c.in-Some.ensures.line);
      utf8 = search rules;
    }

pub returns : goal.returns
returns g c =
    let before = c.loop-line.invariant in
    let none = c.next_line.ensures.end.0 (none_by c.next_line.result c.in_default.not-Some) in
    let all = parts_all _ before.printed _ before.parts (ap (λ r. headings_text (lines_of r)) none ∙ ap headings_text no_lines) in
    subst (Appends (g.W.Write.contents c.args.output.now) (g.W.Write.contents c.loop-line.output)) all before.grown

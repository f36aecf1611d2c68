-- One more line has its text, or the first is reached that has none.
use Rattle.std.proofs.Common.{rules, ap, sym, ◌∙◌, ◌++◌, subst, codes}
use Rattle.std.specs.Io.KnownBytes.{Appends}
use Rattle.std.proofs.KnownBytes.{Appends-trans}
use Rattle.line_streams.specs.Cuts.{lines_of}
use Rattle.lsr_explain.specs.Answers.{explained}
use Rattle.lsr_explain.proofs.TopicLaws.{explained_end, explained_more, explained_none, no_lines, none_by, parts_all, parts_more}
use Rattle.lsr_explain.proofs.telling.put_explained.Goals as goal

pub returns-else-is_indented : goal.returns-else-is_indented
returns-else-is_indented g c =
    let before = c.loop-line.invariant in
    let all = parts_all _ before.printed _ before.parts (ap explained c.in-Some.ensures.line ∙ explained_end c.in-Some.line.now (lines_of c.in-Some.behind.now) (sym c.is_indented.ensures ∙ c.if-is_indented.false)) in
    subst (Appends (g.W.Write.contents c.args.output.now) (g.W.Write.contents c.loop-line.output)) all before.grown

pub returns : goal.returns
returns g c =
    let before = c.loop-line.invariant in
    let none = c.next_line.ensures.end.0 (none_by c.next_line.result c.in_default.not-Some) in
    let all = parts_all _ before.printed _ before.parts (ap (λ r. explained (lines_of r)) none ∙ ap explained no_lines ∙ explained_none) in
    subst (Appends (g.W.Write.contents c.args.output.now) (g.W.Write.contents c.loop-line.output)) all before.grown

pub loop-line-preserved : goal.loop-line-preserved
loop-line-preserved g c =
    let before = c.loop-line.invariant in
    let line = c.in-Some.line.now ++ codes "\n" in
    record {
      printed = before.printed ++ line;
      grown = Appends-trans _ _ _ _ _ before.grown c.in_ok-put_line.ensures;
      parts = parts_more _ before.printed line (explained (lines_of c.loop-line.rest.now)) (explained (lines_of c.in-Some.behind.now)) before.parts
          (ap explained c.in-Some.ensures.line ∙ explained_more c.in-Some.line.now (lines_of c.in-Some.behind.now) (sym c.is_indented.ensures ∙ c.if-is_indented.true));
      utf8 = search rules;
    }

-- The first heading that the word asks for is found, or there is none.
use Rattle.std.proofs.Common.{rules, ap, sym, ◌∙◌}
use Rattle.line_streams.specs.Cuts.{lines_of}
use Rattle.lsr_explain.specs.Topics.{found, of_kind}
use Rattle.lsr_explain.proofs.TopicLaws.{found_behind, found_first, found_none, no_lines, none_by}
use Rattle.lsr_explain.proofs.topics.find_in.Goals as goal

pub returns-then-is_sought : goal.returns-then-is_sought
returns-then-is_sought c =
    let word = c.args.word.now in
    sym (ap (of_kind c.args.kind) (c.loop-line.invariant.same ∙ ap (found c.args.any_case c.args.kind word) c.in-Some.ensures.line ∙ found_first c.args.any_case c.args.kind word c.in-Some.line.now (lines_of c.in-Some.behind.now) (sym c.is_sought.ensures ∙ c.if-is_sought.true)))

pub loop-line-preserved : goal.loop-line-preserved
loop-line-preserved c =
    let word = c.args.word.now in
    record {
      same = c.loop-line.invariant.same ∙ ap (found c.args.any_case c.args.kind word) c.in-Some.ensures.line ∙ found_behind c.args.any_case c.args.kind word c.in-Some.line.now (lines_of c.in-Some.behind.now) (sym c.is_sought.ensures ∙ c.if-is_sought.false);
      utf8 = search rules;
    }

pub returns : goal.returns
returns c =
    let word = c.args.word.now in
    let none = c.next_line.ensures.end.0 (none_by c.next_line.result c.in_default.not-Some) in
    sym (ap (of_kind c.args.kind) (c.loop-line.invariant.same ∙ ap (λ r. found c.args.any_case c.args.kind word (lines_of r)) none ∙ ap (found c.args.any_case c.args.kind word) no_lines ∙ found_none c.args.any_case c.args.kind word))

-- The first form that begins with the word is found, or there is none.
use Rattle.std.proofs.Common.{rules, ap, sym, ◌∙◌}
use Rattle.lsr_lines.specs.Forms.{form_in}
use Rattle.line_streams.specs.Cuts.{lines_of}
use Rattle.lsr_lines.proofs.FormLaws.{form_after, form_first, form_none}
use Rattle.lsr_lines.proofs.Stepping.{none_by}
use Rattle.line_streams.proofs.CutLaws.{lines_of-nil}
use Rattle.lsr_lines.proofs.forms.form_for.Goals as goal

pub returns-then-is_form_of : goal.returns-then-is_form_of
returns-then-is_form_of c =
    let other = c.args.other.now in
    let word = c.args.word.now in
    sym (c.loop-form.invariant.same ∙ ap (form_in other word) c.in-Some.ensures.line ∙ form_first other word c.in-Some.form.now (lines_of c.in-Some.others.now) (sym c.is_form_of.ensures ∙ c.if-is_form_of.true))

pub loop-form-preserved : goal.loop-form-preserved
loop-form-preserved c =
    let other = c.args.other.now in
    let word = c.args.word.now in
    record {
      same = c.loop-form.invariant.same ∙ ap (form_in other word) c.in-Some.ensures.line ∙ form_after other word c.in-Some.form.now (lines_of c.in-Some.others.now) (sym c.is_form_of.ensures ∙ c.if-is_form_of.false);
      utf8 = search rules;
    }

pub returns : goal.returns
returns c =
    let other = c.args.other.now in
    let word = c.args.word.now in
    let none = c.next_line.ensures.end.0 (none_by c.next_line.result c.in_default.not-Some) in
    sym (c.loop-form.invariant.same ∙ ap (λ r. form_in other word (lines_of r)) none ∙ ap (form_in other word) lines_of-nil ∙ form_none other word)

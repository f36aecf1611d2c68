-- The lines before the rest declare what is declared; the next one does too, or none is left.
use Rattle.std.proofs.Common.{rules, arith, sym, ap, ◌∙◌, ◌++◌, ◌∷◌, ◌+◌, [], subst, append_assoc, length-append}
use Rattle.line_streams.proofs.CutLaws.{lines_of-nil}
use Rattle.line_streams.specs.Cuts.{lines_of}
use Rattle.lsr_lines.proofs.Stepping.{none_by}
use Rattle.lsr_play.specs.Declaring.{Declares, EndsDeclaring}
use Rattle.lsr_play.proofs.DeclaringLaws.{declared_push}
use Rattle.lsr_play.proofs.declared.declare_all.Goals as goal

pub loop-line-preserved : goal.loop-line-preserved
loop-line-preserved c =
    let before = c.loop-line.invariant in
    let line = c.in-Some.line.now in
    let declares : Declares c.loop-line.declared line c.declare_line.new.declared = search rules in
    record {
      lines = before.lines ++ (line ∷ []);
      parts = before.parts ∙ ap (λ l. before.lines ++ l) c.in-Some.ensures.line ∙ sym (append_assoc before.lines (line ∷ []) (lines_of c.in-Some.others.now));
      declared = declared_push _ before.lines c.loop-line.declared line c.declare_line.new.declared before.declared declares;
      counted = ap (λ n. n + 1) before.counted ∙ sym (length-append before.lines (line ∷ []));
      room = omega (arith, before.room, c.in-Some.ensures.shorter);
      utf8 = search rules;
    }

pub returns : goal.returns
returns c =
    let before = c.loop-line.invariant in
    let none = c.next_line.ensures.end.0 (none_by c.next_line.result c.in_default.not-Some) in
    (before.lines, before.parts, before.declared, before.counted, subst (EndsDeclaring c.loop-line.declared) (sym (ap lines_of none ∙ lines_of-nil)) tt, before.room)

-- The marks so far, and one more.
use Rattle.std.proofs.Common.{◌≡◌, ◌<◌, ◌≤◌, List, length, slice_index_or, arith, ap, refl, sym, ◌∙◌}
use Rattle.std.proofs.lemmas.List.{get_or_default, take_all, take_more_same}
use Rattle.run_journal.specs.Marks.{Counts, counted_all, first_mark}
use Rattle.run_journal.specs.declared.mark.Mark.{Mark}
use Rattle.run_reconciler.proofs.Joining.{counted_length, says_no}
use Rattle.run_reconciler.proofs.reconciling.are_end_marks.Goals as goal

pub returns-then-marks : goal.returns-then-marks
returns-then-marks c =
    let n : Counts = c.args.segment.now.from in
    let es = c.args.segment.now.entries in
    let known : length c.marks.result.now ≡ length n.marks = ap length (c.marks.ensures ∙ ap (λ (m : Counts). m.marks) c.from.ensures) in
    says_no (c.args.marks.now ≡ (counted_all n es).marks) (λ same. c.if-marks.true (ap length same ∙ counted_length n es ∙ sym known))

pub loop-i-preserved : goal.loop-i-preserved
loop-i-preserved c =
    let n : Counts = c.args.segment.now.from in
    let es = c.args.segment.now.entries in
    let ends = (counted_all n es).marks in
    let i = c.loop-i.i in
    let ms : List Mark = c.args.marks.now in
    let known : length c.marks.result.now ≡ length n.marks = ap length (c.marks.ensures ∙ ap (λ (m : Counts). m.marks) c.from.ensures) in
    let low : i < length ends = omega (arith, c.loop-i-test.true, c.if-marks.false, known, counted_length n es) in
    let d = slice_index_or ms i (first_mark 0) in
    take_more_same ms ends i d c.loop-i-test.true low c.loop-i.invariant (get_or_default ms i d (first_mark 0) c.loop-i-test.true ∙ c.ends_with.ensures.0 c.if-not-ends_with.false)

pub returns : goal.returns
returns c =
    let n : Counts = c.args.segment.now.from in
    let es = c.args.segment.now.entries in
    let ends = (counted_all n es).marks in
    let known : length c.marks.result.now ≡ length n.marks = ap length (c.marks.ensures ∙ ap (λ (m : Counts). m.marks) c.from.ensures) in
    let low : length ends ≤ c.loop-i.i = omega (arith, c.loop-i-test.false, c.if-marks.false, known, counted_length n es) in
    (λ h. sym (take_all c.loop-i.i c.args.marks.now c.loop-i-test.false) ∙ c.loop-i.invariant ∙ take_all c.loop-i.i ends low, λ same. refl)

-- One entry more moves the mark, or leaves it.
use Rattle.std.proofs.Common.{◌≡◌, ◌↔◌, ◌+◌, ◌<◌, Bool, IsTrue, length, take, slice_index_or, arith, ap, subst, sym, ◌∙◌}
use Rattle.run_journal.specs.Marks.{counted, counted_all}
use Rattle.run_reconciler.specs.declared.reconciling.Walk.{Walk}
use Rattle.run_reconciler.proofs.Joining.{at_more, counted_length, counted_more, ends_next, ends_other}
use Rattle.run_reconciler.proofs.reconciling.ends_with.Goals as goal
use Rattle.run_reconciler.proofs.reconciling.ends_with.Goals.{then-index_of-index, else-index_of-index}

pub loop-entry-preserved : goal.loop-entry-preserved
loop-entry-preserved c =
    let n = c.args.segment.now.from in
    let i = c.loop-entry.entry-index in
    let es = c.entries-entries.result.now in
    let e = c.entry-item.result in
    let m = counted_all n (take i es) in
    let after = counted_all n (take (i + 1) es) in
    let inv = c.loop-entry.invariant in
    let more : after ≡ counted m e = counted_more n es i e c.loop-entry-test.true c.entry-item.is in
    let low : c.args.index < length m.marks = omega (arith, c.requires, counted_length n (take i es)) in
    record {
      at = at_more c.loop-entry.walk c.pass.new.self n es i e c.loop-entry-test.true c.entry-item.is c.pass.ensures.passed inv.at;
      index = ap (λ (w : Walk). w.index) c.pass.ensures.passed ∙ inv.index;
      entries = omega (arith, ap (λ (w : Walk). w.entries) c.pass.ensures.passed, inv.entries);
      few = c.pass.ensures.few;
      same = elim c.if-index_of-index.branch [
        | then-index_of-index w ↦ subst (λ (b : Bool). IsTrue b ↔ (c.args.mark ≡ slice_index_or after.marks c.args.index c.args.mark)) (sym w.is_same-is)
            (ends_next c.loop-entry.walk m after e c.args.index c.args.mark w.is_next-is_same.result inv.at more inv.index (sym c.index_of.ensures ∙ w.if-index_of-index.true) low w.is_next-is_same.ensures)
        | else-index_of-index w ↦ subst (λ (b : Bool). IsTrue b ↔ (c.args.mark ≡ slice_index_or after.marks c.args.index c.args.mark)) (sym w.is_same-is)
            (ends_other m after e c.args.index c.args.mark c.loop-entry.is_same more (λ is. w.if-index_of-index.false (c.index_of.ensures ∙ is)) inv.same)
      ];
    }

-- One entry more calls for one receipt of the port more, or for none.
use Rattle.std.proofs.Common.{◌≡◌, ◌+◌, ◌-◌, ◌++◌, ◌∷◌, [], ℕ, List, Bor, length, take, drop, arith, sym, ap, subst, ◌∙◌}
use Rattle.std.proofs.lemmas.List.{append_assoc, length-append, take_more}
use Rattle.run_journal.specs.Marks.{Counts, counted, counted_all, receipt_of}
use Rattle.run_journal.specs.declared.entry.CountedEntry.{CountedEntry}
use Rattle.run_journal.specs.declared.receipt.Receipt.{Receipt}
use Rattle.run_reconciler.specs.Reconciled.{called_for}
use Rattle.run_reconciler.specs.Mismatches.{IsFirstDifference}
use Rattle.run_reconciler.specs.Walks.{IsAt, mine, passed}
use Rattle.run_reconciler.specs.declared.reconciling.Walk.{Walk}
use Rattle.run_journal.proofs.Marking.{counted_push}
use Rattle.run_reconciler.proofs.Calling.{first_difference, mine_next, mine_push, mine_skip}
use Rattle.run_reconciler.proofs.Walking.{at_passed}
use Rattle.run_reconciler.proofs.reconciling.match_segment.Goals as goal
use Rattle.run_reconciler.proofs.reconciling.match_segment.Goals.{then-entry-port+in-Some, else-entry-port}

pub returns-in_default-clause-place : goal.returns-in_default-clause-place
returns-in_default-clause-place c more =
    let n : Counts = c.args.segment.now.from in
    let i = c.loop-entry.entry-index in
    let es : List CountedEntry = c.entries-entries.result.now in
    let e : CountedEntry = c.entry-item.result in
    let port = c.args.port in
    let m = counted_all n (take i es) in
    let inv = c.loop-entry.invariant in
    let before = mine port (called_for n (take i es)) in
    let behind = mine port (called_for (counted m e) (drop (i + 1) es)) in
    let called : mine port (called_for n c.args.segment.now.entries) ≡ before ++ receipt_of m e ∷ behind =
    ap (λ (all : List CountedEntry). mine port (called_for n all)) (sym c.entries-entries.ensures) ∙ mine_next port n es i e c.loop-entry-test.true c.entry-item.is c.if-entry-port.true in
    let all : mine port (called_for n c.args.segment.now.entries) ++ more ≡ before ++ (receipt_of m e ∷ (behind ++ more)) =
    ap (λ (rs : List Receipt). rs ++ more) called ∙ append_assoc before (receipt_of m e ∷ behind) more in
    let place : c.loop-entry.count + 1 ≡ length before + 1 = omega (arith, inv.counted) in
    let differ = first_difference before (mine port c.loop-entry.rest.now) (receipt_of m e ∷ (behind ++ more)) (c.in_default.ensures m inv.at) in
    subst (λ (k : ℕ). IsFirstDifference k (mine port c.args.receipts.now) (mine port (called_for n c.args.segment.now.entries) ++ more)) (sym place)
    (subst (λ (xs : List Receipt). IsFirstDifference (length before + 1) xs (mine port (called_for n c.args.segment.now.entries) ++ more)) (sym inv.taken)
    (subst (λ (ys : List Receipt). IsFirstDifference (length before + 1) (before ++ mine port c.loop-entry.rest.now) ys) (sym all) differ))

pub loop-entry-preserved : goal.loop-entry-preserved
loop-entry-preserved c =
    let n : Counts = c.args.segment.now.from in
    let i = c.loop-entry.entry-index in
    let es : List CountedEntry = c.entries-entries.result.now in
    let e : CountedEntry = c.entry-item.result in
    let port = c.args.port in
    let m = counted_all n (take i es) in
    let inv = c.loop-entry.invariant in
    let before = mine port (called_for n (take i es)) in
    let step : take (i + 1) es ≡ take i es ++ e ∷ [] = take_more es i e c.loop-entry-test.true ∙ ap (λ (x : CountedEntry). take i es ++ x ∷ []) (sym c.entry-item.is) in
    let now : counted_all n (take (i + 1) es) ≡ counted m e = ap (counted_all n) step ∙ counted_push n (take i es) e in
    let at : IsAt c.pass.new.self (counted_all n (take (i + 1) es)) =
    subst (λ (w : Walk). IsAt w (counted_all n (take (i + 1) es))) (sym c.pass.ensures.passed)
    (subst (λ (x : Counts). IsAt (passed c.loop-entry.walk e) x) (sym now) (at_passed c.loop-entry.walk m e inv.at)) in
    let index : c.pass.new.self.index ≡ port - 1 = ap (λ (w : Walk). w.index) c.pass.ensures.passed ∙ inv.index in
    let entries : c.pass.new.self.entries ≡ i + 1 = omega (arith, ap (λ (w : Walk). w.entries) c.pass.ensures.passed, inv.entries) in
    elim c.if-entry-port.branch [
      | then-entry-port+in-Some w ↦
          let pushed : mine port (called_for n (take (i + 1) es)) ≡ before ++ receipt_of m e ∷ [] =
          ap (λ (all : List CountedEntry). mine port (called_for n all)) step ∙ mine_push port n (take i es) e w.if-entry-port.true in
          record {
            at = at;
            index = index;
            entries = entries;
            few = c.pass.ensures.few;
            counted = omega (arith, w.count-is, inv.counted, ap length pushed, length-append before (receipt_of m e ∷ []));
            counts = omega (arith, w.count-is, inv.counts);
            taken = inv.taken
                ∙ ap (λ (rs : List Receipt). before ++ rs) (w.in-Some.ensures m inv.at)
                ∙ sym (append_assoc before (receipt_of m e ∷ []) (mine port w.in-Some.more.now))
                ∙ ap (λ (rs : List Receipt). rs ++ mine port w.in-Some.more.now) (sym pushed)
                ∙ ap (λ (b : Bor (List Receipt)). mine port (called_for n (take (i + 1) es)) ++ mine port b.now) (sym w.rest-is);
          }
      | else-entry-port w ↦
          let pushed : mine port (called_for n (take (i + 1) es)) ≡ before =
          ap (λ (all : List CountedEntry). mine port (called_for n all)) step ∙ mine_skip port n (take i es) e w.if-entry-port.false in
          record {
            at = at;
            index = index;
            entries = entries;
            few = c.pass.ensures.few;
            counted = omega (arith, w.count-is, inv.counted, ap length pushed);
            counts = omega (arith, w.count-is, inv.counts);
            taken = inv.taken
                ∙ ap (λ (rs : List Receipt). rs ++ mine port c.loop-entry.rest.now) (sym pushed)
                ∙ ap (λ (b : Bor (List Receipt)). mine port (called_for n (take (i + 1) es)) ++ mine port b.now) (sym w.rest-is);
          }
    ]

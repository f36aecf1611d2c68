-- A segment more that goes on from the one before, or doesn't.
use Rattle.std.proofs.Common.{◌≡◌, ◌+◌, ◌∷◌, suc, ℕ, slice_index_or, take, arith, refl, ap, subst, ◌∙◌}
use Rattle.std.proofs.lemmas.Bool.{both_ways}
use Rattle.run_journal.specs.Journals.{Stretch}
use Rattle.run_reconciler.specs.Rounds.{GoOnFrom, IsFirstBreak, counts_after}
use Rattle.run_reconciler.proofs.Joining.{break_here, cont_more}
use Rattle.run_reconciler.proofs.reconciling.find_break.Goals as goal

pub returns-then-not-goes_on-clause-place : goal.returns-then-not-goes_on-clause-place
returns-then-not-goes_on-clause-place c =
    let number : c.loop-next.next-index + 1 ≡ c.loop-next.number + 1 = omega (arith, c.loop-next.invariant.number) in
    subst (λ (k : ℕ). IsFirstBreak c.args.last.now k c.args.segments.now) number
    (break_here c.args.last.now c.args.segments.now c.loop-next.next-index c.loop-next.before.now c.next-item.result
    c.loop-next-test.true c.loop-next.invariant.before c.next-item.is
    (λ goes. both_ways c.goes_on.result c.if-not-goes_on.true (c.goes_on.ensures.1 goes)) c.loop-next.invariant.continued)

pub loop-next-preserved : goal.loop-next-preserved
loop-next-preserved c =
    let i = c.loop-next.next-index in
    let last : Stretch = c.args.last.now in
    let next : Stretch = c.next-item.result in
    let e : suc i ≡ i + 1 = omega arith in
    record {
      number = omega (arith, c.loop-next.invariant.number);
      before = c.next-item.is ∙ ap (λ (k : ℕ). slice_index_or (last ∷ c.args.segments.now) k next) e;
      continued = subst (λ (k : ℕ). GoOnFrom last (take k c.args.segments.now)) e
          (cont_more last.router (counts_after last) last c.args.segments.now i c.loop-next.before.now next
          c.loop-next-test.true refl refl c.loop-next.invariant.before c.next-item.is (c.goes_on.ensures.0 c.if-not-goes_on.false) c.loop-next.invariant.continued);
    }

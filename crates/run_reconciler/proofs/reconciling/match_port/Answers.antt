-- A segment more calls for more of the port's receipts, or differs.
use Rattle.std.proofs.Common.{◌≡◌, ◌+◌, ◌-◌, ◌^◌, ◌<◌, ◌++◌, ℕ, List, length, take, arith, ap, subst, sym, ◌∙◌}
use Rattle.std.proofs.lemmas.List.{append_assoc, length-append}
use Rattle.run_journal.specs.Journals.{Stretch}
use Rattle.run_journal.specs.declared.receipt.Receipt.{Receipt}
use Rattle.run_reconciler.specs.Mismatches.{IsFirstDifference}
use Rattle.run_reconciler.specs.Reconciled.{called_for}
use Rattle.run_reconciler.specs.Walks.{called_in, mine}
use Rattle.run_reconciler.proofs.Calling.{behind_all, differs, in_segment, mine_few, mine_more, place_within}
use Rattle.run_reconciler.proofs.reconciling.match_port.Goals as goal

pub overflow_add-count : goal.overflow_add-count
overflow_add-count c =
    let port = c.args.port in
    let before = mine port (called_in (take c.loop-segment.segment-index c.args.segments.now)) in
    let called = mine port (called_for c.segment-item.result.from c.segment-item.result.entries) in
    let few : length c.args.receipts.now < 2 ^ 64 - 1 = omega (arith, c.well_formed.1.0.1) in
    omega (
      arith,
      few,
      c.loop-segment.invariant.counted,
      c.in-Ok.ensures.count,
      mine_few port c.args.receipts.now,
      ap length c.loop-segment.invariant.taken,
      length-append before (mine port c.loop-segment.rest.now),
      ap length c.in-Ok.ensures.rest,
      length-append called (mine port c.in-Ok.left.now),
    )

pub overflow_add-result : goal.overflow_add-result
overflow_add-result c =
    let differ = in_segment c.args.port c.args.receipts.now c.loop-segment.rest.now c.args.segments.now c.loop-segment.segment-index c.segment-item.result c.in-Err.place
    c.loop-segment-test.true c.segment-item.is c.loop-segment.invariant.taken c.in-Err.ensures.place in
    omega (arith, c.well_formed.1.0.1, c.loop-segment.invariant.counted, place_within _ _ _ differ, mine_few c.args.port c.args.receipts.now)

pub returns-in-Err-clause-other : goal.returns-in-Err-clause-other
returns-in-Err-clause-other c =
    differs _ _ _ (in_segment c.args.port c.args.receipts.now c.loop-segment.rest.now c.args.segments.now c.loop-segment.segment-index c.segment-item.result c.in-Err.place
    c.loop-segment-test.true c.segment-item.is c.loop-segment.invariant.taken c.in-Err.ensures.place)

pub returns-in-Err-clause-place : goal.returns-in-Err-clause-place
returns-in-Err-clause-place c =
    subst (λ (k : ℕ). IsFirstDifference (k + c.in-Err.place) (mine c.args.port c.args.receipts.now) (mine c.args.port (called_in c.args.segments.now))) (sym c.loop-segment.invariant.counted)
    (in_segment c.args.port c.args.receipts.now c.loop-segment.rest.now c.args.segments.now c.loop-segment.segment-index c.segment-item.result c.in-Err.place
    c.loop-segment-test.true c.segment-item.is c.loop-segment.invariant.taken c.in-Err.ensures.place)

pub loop-segment-preserved : goal.loop-segment-preserved
loop-segment-preserved c =
    let port = c.args.port in
    let i = c.loop-segment.segment-index in
    let pieces : List Stretch = c.args.segments.now in
    let piece : Stretch = c.segment-item.result in
    let before = mine port (called_in (take i pieces)) in
    let called = mine port (called_for piece.from piece.entries) in
    let left = mine port c.in-Ok.left.now in
    let pushed : mine port (called_in (take (i + 1) pieces)) ≡ before ++ called = mine_more port pieces i piece c.loop-segment-test.true c.segment-item.is in
    record {
      counted = omega (arith, c.loop-segment.invariant.counted, c.in-Ok.ensures.count, ap length pushed, length-append before called);
      taken = c.loop-segment.invariant.taken ∙ ap (λ (rs : List Receipt). before ++ rs) c.in-Ok.ensures.rest
          ∙ sym (append_assoc before called left) ∙ ap (λ (rs : List Receipt). rs ++ left) (sym pushed);
    }

pub overflow_add-result-in-Some : goal.overflow_add-result-in-Some
overflow_add-result-in-Some c =
    let differ = behind_all c.args.port c.args.receipts.now c.loop-segment.rest.now (mine c.args.port c.in-Some.field-0.1.now) c.in-Some.field-0.0.now c.args.segments.now c.loop-segment.segment-index
    c.loop-segment-test.false c.loop-segment.invariant.taken c.in-Some.ensures in
    omega (arith, c.well_formed.1.0.1, c.loop-segment.invariant.counted, place_within _ _ _ differ, mine_few c.args.port c.args.receipts.now)

pub returns-in-Some-clause-other : goal.returns-in-Some-clause-other
returns-in-Some-clause-other c =
    differs _ _ _ (behind_all c.args.port c.args.receipts.now c.loop-segment.rest.now (mine c.args.port c.in-Some.field-0.1.now) c.in-Some.field-0.0.now c.args.segments.now c.loop-segment.segment-index
    c.loop-segment-test.false c.loop-segment.invariant.taken c.in-Some.ensures)

pub returns-in-Some-clause-place : goal.returns-in-Some-clause-place
returns-in-Some-clause-place c =
    subst (λ (k : ℕ). IsFirstDifference (k + 1) (mine c.args.port c.args.receipts.now) (mine c.args.port (called_in c.args.segments.now))) (sym c.loop-segment.invariant.counted)
    (behind_all c.args.port c.args.receipts.now c.loop-segment.rest.now (mine c.args.port c.in-Some.field-0.1.now) c.in-Some.field-0.0.now c.args.segments.now c.loop-segment.segment-index
    c.loop-segment-test.false c.loop-segment.invariant.taken c.in-Some.ensures)

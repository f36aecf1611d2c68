-- A segment that doesn't go on from the one before is a gap.
use Rattle.std.proofs.Common.{◌≡◌, ◌+◌, ◌≤◌, List, length, arith, ap, subst, sym}
use Rattle.run_journal.specs.Journals.{Stretch}
use Rattle.run_journal.specs.Marks.{Counts, first_counts}
use Rattle.run_reconciler.specs.Mismatches.{IsFirstGap}
use Rattle.run_reconciler.proofs.Joining.{break_gap, break_within}
use Rattle.run_reconciler.proofs.reconciling.find_gap.Goals as goal

pub returns-in-Err-clause-gap : goal.returns-in-Err-clause-gap
returns-in-Err-clause-gap c =
    let first : Stretch = c.in-Some.first.now in
    let opens : first.from ≡ first_counts (length first.from.marks) =
    subst (λ (n : Counts). n ≡ first_counts (length n.marks)) c.from.ensures (c.are_first_numbers.ensures.0 c.if-not-are_first_numbers.false) in
    subst (λ (pieces : List Stretch). IsFirstGap (c.in-Err.number + 1) pieces) (sym c.in-Some.ensures.cases.0)
    (break_gap first c.in-Some.rest.now c.in-Err.number opens c.in-Err.ensures.place)

pub overflow_add-result : goal.overflow_add-result
overflow_add-result c =
    let within : c.in-Err.number ≤ length c.in-Some.rest.now = break_within c.in-Some.first.now c.in-Some.rest.now c.in-Err.number c.in-Err.ensures.place in
    omega (arith, within, ap length c.in-Some.ensures.cases.0)

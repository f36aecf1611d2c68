use Rattle.std.proofs.Common.{◌≡◌, true, false, ◌||◌, length, get_or, take, sym, ap, subst, ◌∙◌, arith}
use Rattle.std.proofs.lemmas.List.Folds.{list_any_at, list_any_more}
use Rattle.std.specs.List.{list_any}
use Rattle.timer_wheel.specs.Due.{is_due}
use Rattle.timer_wheel.proofs.Passing.{IsAt, steps, ends, ends_full}
use Rattle.timer_wheel.proofs.walks.any_due.Goals as goal

pub returns-then-at-head : goal.returns-then-at-head
returns-then-at-head c = λ slots ring.
    let passed = c.loop-passed.invariant.passed slots ring in
    sym (subst (λ xs. list_any (is_due c.args.now c.args.moments.now) xs ≡ false) (ends c.args.after.now c.args.head slots c.loop-passed._passed c.loop-passed.at c.if-at-head.true passed.0) passed.1)

pub returns-then-is_due : goal.returns-then-is_due
returns-then-is_due c = λ slots ring.
    let passed = c.loop-passed.invariant.passed slots ring in
    let step = steps c.args.after.now c.args.head slots c.loop-passed._passed c.loop-passed.at c.if-at-head.false passed.0 in
    let test = is_due c.args.now c.args.moments.now in
    let due : test (get_or slots c.loop-passed._passed 0) ≡ true = subst (λ slot. test slot ≡ true) step.here (sym c.is_due.ensures ∙ c.if-is_due.true) in
    sym (list_any_at test slots c.loop-passed._passed 0 step.more due)

pub loop-passed-preserved : goal.loop-passed-preserved
loop-passed-preserved c =
    record {
      within = c.requires.within c.loop-passed.at c.loop-passed.invariant.within;
      passed = λ slots ring.
          let passed = c.loop-passed.invariant.passed slots ring in
          let step = steps c.args.after.now c.args.head slots c.loop-passed._passed c.loop-passed.at c.if-at-head.false passed.0 in
          let test = is_due c.args.now c.args.moments.now in
          let not_due : test (get_or slots c.loop-passed._passed 0) ≡ false = subst (λ slot. test slot ≡ false) step.here (sym c.is_due.ensures ∙ c.if-is_due.false) in
          (step.next, list_any_more test slots c.loop-passed._passed 0 step.more ∙ (ap (λ b. b || test (get_or slots c.loop-passed._passed 0)) passed.1 ∙ not_due));
    }

pub returns : goal.returns
returns c = λ slots ring.
    let passed = c.loop-passed.invariant.passed slots ring in
    let all : c.loop-passed._passed ≡ length c.args.moments.now = omega arith in
    let is_at = subst (λ n. IsAt c.args.after.now c.args.head slots n c.loop-passed.at) all passed.0 in
    let full = ap (λ n. take n slots) all ∙ ends_full c.args.after.now (length c.args.moments.now) c.args.head slots c.loop-passed.at ring is_at in
    sym (subst (λ xs. list_any (is_due c.args.now c.args.moments.now) xs ≡ false) full passed.1)

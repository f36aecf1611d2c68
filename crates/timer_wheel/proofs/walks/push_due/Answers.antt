use Rattle.std.proofs.Common.{◌≡◌, ℕ, ◌+◌, ◌<◌, List, [], ◌∷◌, ◌++◌, Bool, true, false, cond, filter, length, get_or, take, sym, ap, subst, ◌∙◌, append_assoc, arith}
use Rattle.std.proofs.lemmas.List.Elements.{filter_more}
use Rattle.std.proofs.lemmas.List.{append-nil}
use Rattle.timer_wheel.specs.Due.{is_due}
use Rattle.timer_wheel.proofs.Passing.{IsAt, steps, ends, ends_full}
use Rattle.timer_wheel.proofs.walks.push_due.Goals as goal
use Rattle.timer_wheel.proofs.walks.push_due.Goals.{then-is_due+in_ok-push, else-is_due}

pub returns-then-at-head : goal.returns-then-at-head
returns-then-at-head c = λ slots ring.
    let passed = c.loop-passed.invariant.passed slots ring in
    subst (λ xs. c.loop-passed.due.items ≡ c.args.due.now.items ++ filter (is_due c.args.now c.args.moments.now) xs) (ends c.args.after.now c.args.head slots c.loop-passed._passed c.loop-passed.at c.if-at-head.true passed.0) passed.1

-- a slot that was passed, and was added where it is due
passed_one : (old items next slots : List ℕ) (test : ℕ → Bool) (passed at : ℕ) (b : Bool) → at ≡ get_or slots passed 0 → passed < length slots → items ≡ old ++ filter test (take passed slots) → test at ≡ b → next ≡ items ++ cond b (at ∷ []) [] → next ≡ old ++ filter test (take (passed + 1) slots)
passed_one old items next slots test passed at b here more were tested added =
    let now = cond b (at ∷ []) [] in
    let kept = filter test (take passed slots) in
    let same : now ≡ cond (test (get_or slots passed 0)) (get_or slots passed 0 ∷ []) [] = ap (λ x. cond x (at ∷ []) []) (sym tested) ∙ ap (λ slot. cond (test slot) (slot ∷ []) []) here in
    added
    ∙ (ap (λ xs. xs ++ now) were
    ∙ (append_assoc old kept now
    ∙ ap (λ xs. old ++ xs) (ap (λ xs. kept ++ xs) same ∙ sym (filter_more test slots passed 0 more))))

pub loop-passed-preserved : goal.loop-passed-preserved
loop-passed-preserved c =
    record {
      within = c.requires.within c.loop-passed.at c.loop-passed.invariant.within;
      passed = λ slots ring.
          let passed = c.loop-passed.invariant.passed slots ring in
          let step = steps c.args.after.now c.args.head slots c.loop-passed._passed c.loop-passed.at c.if-at-head.false passed.0 in
          let test = is_due c.args.now c.args.moments.now in
          let one = passed_one c.args.due.now.items c.loop-passed.due.items c.if-is_due.due.items slots test c.loop-passed._passed c.loop-passed.at in (
            step.next,
            elim c.if-is_due.branch [
              | then-is_due+in_ok-push w ↦ one true step.here step.more passed.1 (sym c.is_due.ensures ∙ w.if-is_due.true) (ap (λ v. v.items) w.due-is ∙ w.in_ok-push.ensures.items)
              | else-is_due w ↦ one false step.here step.more passed.1 (sym c.is_due.ensures ∙ w.if-is_due.false) (ap (λ v. v.items) w.due-is ∙ sym (append-nil c.loop-passed.due.items))
            ],
          );
    }

pub returns : goal.returns
returns c = λ slots ring.
    let passed = c.loop-passed.invariant.passed slots ring in
    let all : c.loop-passed._passed ≡ length c.args.moments.now = omega arith in
    let is_at = subst (λ n. IsAt c.args.after.now c.args.head slots n c.loop-passed.at) all passed.0 in
    let full = ap (λ n. take n slots) all ∙ ends_full c.args.after.now (length c.args.moments.now) c.args.head slots c.loop-passed.at ring is_at in
    subst (λ xs. c.loop-passed.due.items ≡ c.args.due.now.items ++ filter (is_due c.args.now c.args.moments.now) xs) full passed.1

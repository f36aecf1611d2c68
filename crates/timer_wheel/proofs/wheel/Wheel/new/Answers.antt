use Rattle.std.proofs.Common.{◌≡◌, ℕ, None, get_or, replicate, rules, subst, sym, arith}
use Rattle.timer_wheel.specs.TimedLaws.{none_has}
use Rattle.timer_wheel.proofs.Places.{wheel_empty}
use Rattle.timer_wheel.proofs.wheel.Wheel.new.Goals as goal

pub invariant_of-result : goal.invariant_of-result
invariant_of-result c =
    let after = c.in_ok-after.ensures in
    let before = c.in_ok-before.ensures in
    let made : c.in_ok-moments.moments.items ≡ replicate c.args.slots None = search rules in
    wheel_empty c.in_ok-moments.moments.items c.in_ok-after.after.items c.in_ok-before.before.items 0 (omega arith) (omega arith) (λ x h. after.alone x (omega arith)) (λ x h. before.alone x (omega arith)) (subst (λ ms. (slot : ℕ) → get_or ms slot None ≡ None) (sym made) (none_has c.args.slots)) (omega arith)

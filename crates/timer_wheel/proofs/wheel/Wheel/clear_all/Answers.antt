use Rattle.std.proofs.Common.{◌≡◌, ℕ, None, length, get_or, replicate, rules, subst, sym, arith}
use Rattle.timer_wheel.specs.TimedLaws.{none_has}
use Rattle.timer_wheel.proofs.Places.{wheel_empty}
use Rattle.timer_wheel.proofs.wheel.Wheel.clear_all.Goals as goal

pub invariant_of-self : goal.invariant_of-self
invariant_of-self c =
    let nodes = c.self.invariant.nodes in
    let same = c.self.invariant.rings.same_nodes in
    let made : c.fill.new.self.items ≡ replicate (length c.self.inside.moments.items) None = search rules in
    wheel_empty c.fill.new.self.items c.part.new.nodes.items c.part-2.new.nodes.items c.self.inside.base (omega arith) (omega arith) c.part.ensures.alone c.part-2.ensures.alone (subst (λ ms. (slot : ℕ) → get_or ms slot None ≡ None) (sym made) (none_has (length c.self.inside.moments.items))) c.self.invariant.early

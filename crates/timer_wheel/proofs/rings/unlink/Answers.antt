use Rattle.std.proofs.Common.{◌≡◌, ℕ, get_or, set, sym, subst, arith}
use Rattle.std.proofs.lemmas.Grind.{get_or_default_zero}
use Rattle.timer_wheel.specs.Rings.{IsRing}
use Rattle.timer_wheel.proofs.Slots.{without}
use Rattle.timer_wheel.proofs.Chains.{ring_without}
use Rattle.timer_wheel.proofs.rings.unlink.Goals as goal

pub returns-clause-others : goal.returns-clause-others
returns-clause-others c = λ bound head slots few head_in ne ring.
    let earlier : c.index-earlier.result.now ≡ get_or c.args.before.now.items c.args.node 0 = grind (arith, get_or_default_zero) in
    let later : c.index-later.result.now ≡ get_or c.args.after.now.items c.args.node 0 = grind (arith, get_or_default_zero) in
    let after = c.args.after.now.items in
    let family = λ (m n : ℕ). IsRing (set (set after m n) c.args.node c.args.node) bound head (without c.args.node slots) in
    subst (λ m. family m c.index-later.result.now) (sym earlier) (subst (family (get_or c.args.before.now.items c.args.node 0)) (sym later) (ring_without c.args.after.now.items c.args.before.now.items c.args.node bound head slots c.requires.rings c.requires.within few head_in ne ring))

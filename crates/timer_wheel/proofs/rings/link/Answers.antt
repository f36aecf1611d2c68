use Rattle.std.proofs.Common.{◌≡◌, get_or, set, ◌∷◌, sym, subst, arith}
use Rattle.std.proofs.lemmas.Grind.{get_or_default_zero}
use Rattle.timer_wheel.specs.Rings.{IsRing}
use Rattle.timer_wheel.proofs.Chains.{ring_with, ring_beside}
use Rattle.timer_wheel.proofs.rings.link.Goals as goal

pub returns-clause-first : goal.returns-clause-first
returns-clause-first c = λ bound slots low high new ring.
    let later : c.index-later.result.now ≡ get_or c.args.after.now.items c.args.head 0 = grind (arith, get_or_default_zero) in
    subst (λ n. IsRing (set (set c.args.after.now.items c.args.head c.args.slot) c.args.slot n) bound c.args.head (c.args.slot ∷ slots)) (sym later) (ring_with c.args.after.now.items c.args.slot bound c.args.head slots c.requires.within c.requires.head_within low high new ring)

pub returns-clause-others : goal.returns-clause-others
returns-clause-others c = λ bound other slots high apart beside new ring.
    ring_beside c.args.after.now.items c.args.slot bound c.args.head other slots c.index-later.result.now high apart beside new ring

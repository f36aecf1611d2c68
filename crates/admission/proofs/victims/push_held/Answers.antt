use Rattle.std.proofs.Common.{◌==◌, ◌&&◌, ◌++◌, List, ap, map, ◌∙◌}
use Rattle.std.specs.List.{filter}
use Rattle.std.specs.Slice.Iter.{iter_rest}
use Rattle.std.proofs.lemmas.Iterator.Adapters.{YieldsList-from_rev_slice}
use Rattle.std.proofs.lemmas.Iterator.Consumers.{YieldsList-at, YieldsList-end}
use Rattle.lsr_facts.specs.declared.key.Key.{Key}
use Rattle.lsr_facts.specs.Admission.{can_give_way}
use Rattle.lsr_facts.specs.declared.claim.Claim.{Claim}
use Rattle.admission.proofs.Turns.{held_backwards}
use Rattle.admission.proofs.victims.push_held.Goals as goal

pub returns : goal.returns
returns c =
    let claims = c.args.claims.now in
    let request = c.args.request.now in
    let backwards = YieldsList-end
    (YieldsList-at c.into_iter-row-iterator.ensures.into_iter_gives (YieldsList-from_rev_slice claims (ap iter_rest c.rev-row-items.ensures.source ∙ c.iter.ensures.rest)))
    c.loop-row.yielded _ c.loop-row.yielded_by _ _ c.in-None.is c.next.ensures.steps in
    let keys = λ (rows : List (Key × Claim)). c.args.keys.now.items ++ map (λ row. row.0) rows in
    c.loop-row.invariant
    ∙ ap (λ rows. keys (filter (λ claim. can_give_way request claim && (claim.1.holding == c.args.holding)) rows)) backwards.0
    ∙ ap keys (held_backwards request c.args.holding claims)

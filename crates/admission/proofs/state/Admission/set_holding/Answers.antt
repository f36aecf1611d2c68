use Rattle.std.proofs.Common.{◌≡◌, Some, arith, sym, ◌∙◌}
use Rattle.std.specs.FinMap.Entries.{find}
use Rattle.lsr_facts.specs.Orders.{key_cmp}
use Rattle.admission.proofs.Matching.{matched_fact, matched_held, matched_length}
use Rattle.admission.proofs.state.Admission.set_holding.Goals as goal

pub set-requires-clause-room : goal.set-requires-clause-room
set-requires-clause-room c =
    let found : find key_cmp c.args.key.now c.self.inside.claims ≡ Some c.in-Some.claim = sym c.get.ensures ∙ sym c.copied.ensures ∙ c.in-Some.is in
    let held = matched_held c.args.key.now c.in-Some.claim c.args.holding c.self.inside.resvs c.self.inside.claims c.rows_are_in_order.ensures.sorted c.requires c.self.invariant found in
    let same = matched_length _ _ held in
    let few = c.rows_are_in_order.ensures.few in
    omega (arith, same, few)

pub set-requires-clause-most : goal.set-requires-clause-most
set-requires-clause-most c =
    let found : find key_cmp c.args.key.now c.self.inside.claims ≡ Some c.in-Some.claim = sym c.get.ensures ∙ sym c.copied.ensures ∙ c.in-Some.is in
    (matched_fact c.args.key.now c.in-Some.claim c.self.inside.resvs c.self.inside.claims c.self.invariant found).2.rated

pub invariant_of-self : goal.invariant_of-self
invariant_of-self c =
    let found : find key_cmp c.args.key.now c.self.inside.claims ≡ Some c.in-Some.claim = sym c.get.ensures ∙ sym c.copied.ensures ∙ c.in-Some.is in
    rw c.set.ensures (matched_held c.args.key.now c.in-Some.claim c.args.holding c.self.inside.resvs c.self.inside.claims c.rows_are_in_order.ensures.sorted c.requires c.self.invariant found)

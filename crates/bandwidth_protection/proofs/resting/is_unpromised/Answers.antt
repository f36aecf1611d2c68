-- Nothing was promised, so nothing of that is in use; and no bypass has bandwidth to promise.
use Rattle.std.proofs.Common.{◌≡◌, ℕ, List, [], ap, subst, sym, ◌∙◌}
use Rattle.std.specs.FinMap.Entries.{where_key}
use Rattle.std.specs.List.{AllByRecursion}
use Rattle.lsr_facts.specs.Orders.{key_cmp}
use Rattle.lsr_facts.specs.declared.bypass.Bypass.{Bypass}
use Rattle.abstract_router.specs.Assigning.{is_in_use}
use Rattle.state_views.specs.Edits.{edited}
use Rattle.bandwidth_protection.proofs.Placing.{nothing}
use Rattle.bandwidth_protection.specs.CandidateLaws.{none_promising}
use Rattle.bandwidth_protection.specs.WishLaws.{none_promised}
use Rattle.bandwidth_protection.proofs.resting.is_unpromised.Goals as goal

pub returns : goal.returns
returns g c said =
    let r = g.V.StateView.router c.args.view.now in
    let s = g.V.StateView.state c.args.view.now in
    let t = edited c.args.edits.now s in
    let was : s.assignments ≡ [] = nothing s.assignments (sym c.assignment_count.ensures.count ∙ c.if-assignment_count-ne0.false) in
    let bypasses = c.as_slice.ensures.rows ∙ c.bypasses.ensures.bypasses in
    let none = none_promising r t (subst (λ (rows : List (ℕ × Bypass)). AllByRecursion (λ bypass. bypass.1.capacity ≡ 0) rows) bypasses (c.have_no_capacity.ensures said)) in
    sym (none_promised r t none) ∙ ap (where_key key_cmp (is_in_use t)) (c.requires.kept ∙ was) ∙ sym was

-- The LSPs that are looked at are all that can have a promise that nobody holds.
use Rattle.std.proofs.Common.{◌≡◌, ◌++◌, filter_map, ◌∙◌}
use Rattle.std.proofs.lemmas.Result.{IfOk-weaker}
use Rattle.lsr_facts.specs.declared.assignment.Assignment.{Assignment}
use Rattle.lsr_facts.specs.declared.key.Key.{Key}
use Rattle.abstract_router.specs.States.{is_held, is_one_of}
use Rattle.state_views.specs.Edits.{edited}
use Rattle.state_settling.specs.Falling.{failing_key, fails_at}
use Rattle.state_settling.specs.FallingLaws.{unheld_all}
use Rattle.state_settling.proofs.standing.unheld.Goals as goal

pub returns : goal.returns
returns g c =
    let s = g.V.StateView.state c.args.view.now in
    let e = c.args.edits.now in
    let after = edited e s in
    let held = λ (given : Key × Assignment). is_held after given.0 in
    let promised = c.in_ok-keys.ensures ∙ (λ i. c.new.ensures.items i ++ filter_map (λ row. failing_key held after.assignments row.0) (c.as_slice-promised.ensures.rows i)) in
    let reserved = c.in_ok-keys-2.ensures ∙ (λ i. promised i ++ filter_map (λ row. failing_key held after.assignments row.0) (c.as_slice.ensures.rows i)) in
    IfOk-weaker c.with_fallen-3.result
    (λ all. all.items ≡ c.in_ok-keys-2.keys.items ++ filter_map (λ row. failing_key held after.assignments row.0) c.as_slice-2.result.now)
    (λ all. (key : Key) → is_one_of all.items key ≡ fails_at held after.assignments key)
    (λ all is. unheld_all s e c.requires all.items (is ∙ (λ i. reserved i ++ filter_map (λ row. failing_key held after.assignments row.0) (c.as_slice-2.ensures.rows i))))
    c.with_fallen-3.ensures

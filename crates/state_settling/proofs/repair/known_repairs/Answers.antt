-- The LSPs that are asked are all that can be repaired.
use Rattle.std.proofs.Common.{◌≡◌, Option, ap, sym, ◌∙◌}
use Rattle.std.proofs.lemmas.Result.{IfOk-weaker}
use Rattle.std.specs.FinMap.Entries.{find}
use Rattle.std.specs.Option.{option_and_then, option_or}
use Rattle.sorted_rows.specs.EditLaws.{find-edited}
use Rattle.sorted_rows.specs.Edits.{over}
use Rattle.lsr_facts.specs.OrderLaws.{key_total}
use Rattle.lsr_facts.specs.Orders.{key_cmp}
use Rattle.lsr_facts.specs.declared.key.Key.{Key}
use Rattle.lsr_facts.specs.declared.resv_fact.ResvFact.{ResvFact}
use Rattle.state_views.specs.Edits.{edited}
use Rattle.state_settling.specs.Repairs.{repair_at}
use Rattle.state_settling.specs.RepairsLaws.{repairs_of_all, repairs_of_edits}
use Rattle.state_settling.proofs.repair.known_repairs.Goals as goal

pub with_repairs-requires-clause-gone : goal.with_repairs-requires-clause-gone
with_repairs-requires-clause-gone g c q gone =
    let s = g.V.StateView.state c.args.view.now in
    let e = c.args.edits.now in
    find-edited key_cmp key_total q e.resvs s.resvs ∙ ap (λ (edit : Option (Option ResvFact)). over edit (find key_cmp q s.resvs)) (ap (find key_cmp q) (sym c.as_slice.ensures.rows) ∙ gone)

pub returns-in-Some : goal.returns-in-Some
returns-in-Some g c =
    let r = g.V.StateView.router c.args.view.now in
    let s = g.V.StateView.state c.args.view.now in
    let e = c.args.edits.now in
    let known = c.in_ok-known.known in
    IfOk-weaker c.with_all_repairs.result
    (λ all. (key : Key) → find key_cmp key all ≡ option_or (option_and_then (λ row. repair_at r (edited e s) key) (find key_cmp key s.resvs)) (find key_cmp key known))
    (λ all. (key : Key) → find key_cmp key all ≡ repair_at r (edited e s) key)
    (λ all is. repairs_of_all r s e all known (λ q.
    c.in_ok-known.ensures q
    ∙ (λ i. option_or (option_and_then (λ (row : Option ResvFact). repair_at r (edited e s) q) (find key_cmp q (c.as_slice.ensures.rows i))) (find key_cmp q (c.new.ensures i)))) is)
    c.with_all_repairs.ensures

pub returns-in-None : goal.returns-in-None
returns-in-None g c =
    let r = g.V.StateView.router c.args.view.now in
    let s = g.V.StateView.state c.args.view.now in
    let e = c.args.edits.now in
    repairs_of_edits r s e c.in_ok-known.known c.requires c.in-None.is (λ q.
    c.in_ok-known.ensures q
    ∙ (λ i. option_or (option_and_then (λ (row : Option ResvFact). repair_at r (edited e s) q) (find key_cmp q (c.as_slice.ensures.rows i))) (find key_cmp q (c.new.ensures i))))

-- The repairs that are new are put, and told: where there is none, the edits lead where they led.
use Rattle.std.proofs.Common.{◌≡◌, [], List, Option, ap, length, sym, ◌∙◌}
use Rattle.std.proofs.lemmas.Bool.{eqb-true}
use Rattle.std.specs.List.{flat_map}
use Rattle.std.specs.Prelude.{map}
use Rattle.lsr_facts.specs.Orders.{key_cmp}
use Rattle.lsr_facts.specs.declared.key.Key.{Key}
use Rattle.lsr_facts.specs.declared.repair.Repair.{Repair}
use Rattle.abstract_router.specs.Repairing.{put_repair, told_of, told_repaired}
use Rattle.state_views.specs.Edits.{edited}
use Rattle.state_views.specs.Joining.{joined_rows}
use Rattle.state_settling.specs.RepairsLaws.{repaired_by}
use Rattle.state_settling.proofs.Nothing.{nothing}
use Rattle.state_settling.proofs.repair.repair_all.Goals as goal

pub returns-clause-after : goal.returns-clause-after
returns-clause-after g c =
    let r = g.V.StateView.router c.args.view.now in
    let s = g.V.StateView.state c.args.view.now in
    let e = c.args.edits.now in
    let put = ap (λ (was : List (Key × Option Repair)). joined_rows key_cmp was (map put_repair c.in_ok-repairs.repairs)) c.replace-was.ensures.value in
    ap (λ (repairs : List (Key × Option Repair)). edited (record e { repairs = repairs }) s) (c.in_ok-edits.ensures ∙ put)
    ∙ repaired_by r s e c.in_ok-repairs.repairs c.requires.repairs c.in_ok-repairs.ensures

pub returns-clause-told : goal.returns-clause-told
unfolding told_repaired
returns-clause-told g c =
    let r = g.V.StateView.router c.args.view.now in
    let s = g.V.StateView.state c.args.view.now in
    c.in_ok-told.ensures ∙ ap (flat_map (told_of r (edited c.args.edits.now s))) (c.as_slice-2.ensures.rows ∙ c.in_ok-repairs.ensures)

pub returns-then-is_empty-clause-after : goal.returns-then-is_empty-clause-after
returns-then-is_empty-clause-after g c =
    let none : c.in_ok-repairs.repairs ≡ [] = sym c.as_slice.ensures.rows ∙ nothing c.as_slice.result.now (eqb-true (length c.as_slice.result.now) 0 (sym c.is_empty.ensures ∙ c.if-is_empty.true)) in
    repaired_by (g.V.StateView.router c.args.view.now) (g.V.StateView.state c.args.view.now) c.args.edits.now [] c.requires.repairs (sym none ∙ c.in_ok-repairs.ensures)

pub returns-then-is_empty-clause-told : goal.returns-then-is_empty-clause-told
unfolding told_repaired
returns-then-is_empty-clause-told g c =
    let r = g.V.StateView.router c.args.view.now in
    let s = g.V.StateView.state c.args.view.now in
    let none : c.in_ok-repairs.repairs ≡ [] = sym c.as_slice.ensures.rows ∙ nothing c.as_slice.result.now (eqb-true (length c.as_slice.result.now) 0 (sym c.is_empty.ensures ∙ c.if-is_empty.true)) in
    c.new.ensures ∙ ap (flat_map (told_of r (edited c.args.edits.now s))) (sym none ∙ c.in_ok-repairs.ensures)

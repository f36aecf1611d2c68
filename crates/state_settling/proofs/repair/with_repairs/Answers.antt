-- One LSP more is looked at: its repair is put, if there is to be one. There is none where its reservation goes.
use Rattle.std.proofs.Common.{◌≡◌, Option, Some, ap, subst, sym, ◌∙◌}
use Rattle.std.specs.FinMap.Entries.{find, put}
use Rattle.std.specs.Option.{option_and_then, option_map_or}
use Rattle.std.proofs.lemmas.List.Elements.{All-from_recursion, All-get_or}
use Rattle.sorted_rows.specs.RowsLaws.{all_found}
use Rattle.lsr_facts.specs.OrderLaws.{key_exact, key_total}
use Rattle.lsr_facts.specs.Orders.{key_cmp}
use Rattle.lsr_facts.specs.declared.key.Key.{Key}
use Rattle.lsr_facts.specs.declared.repair.Repair.{Repair}
use Rattle.lsr_facts.specs.declared.resv_fact.ResvFact.{ResvFact}
use Rattle.abstract_paths.specs.StampLaws.{none-is}
use Rattle.abstract_router.specs.Repairing.{repair_of}
use Rattle.state_settling.specs.Repairs.{repair_at}
use Rattle.make_before_break.proofs.Asking.{one_asked}
use Rattle.state_settling.proofs.repair.with_repairs.Goals as goal
use Rattle.state_settling.proofs.repair.with_repairs.Goals.{then-is_some+in_ok-all, else-is_some}

pub loop-row-preserved : goal.loop-row-preserved
loop-row-preserved g c =
    let r = g.A.StateView.router c.args.after.now in
    let s = g.A.StateView.state c.args.after.now in
    let rows = c.args.rows.now in
    let at = c.loop-row.row-index in
    let row = c.row-item.result in
    let before = c.loop-row.all in
    let with = λ (repair : Option Repair). option_map_or (λ repair. put key_cmp row.0 repair before) repair before in
    let is_found = λ (row : Key × Option ResvFact). find key_cmp row.0 rows ≡ Some row.1 in
    let found : find key_cmp row.0 rows ≡ Some row.1 =
    subst is_found (sym c.row-item.is) (All-get_or is_found rows at row c.loop-row-test.true (All-from_recursion is_found rows (all_found key_cmp key_total rows c.requires.order))) in
    let asked = one_asked key_cmp key_total key_exact rows at (repair_at r s) c.args.repairs before c.if-is_some.all row c.loop-row-test.true c.row-item.is in
    elim c.if-is_some.branch [
      | then-is_some+in_ok-all w ↦ asked (w.all-is ∙ w.in_ok-all.ensures) c.loop-row.invariant
      | else-is_some w ↦
          let gone = c.requires.gone row.0 (found ∙ ap Some (none-is row.1 (sym c.is_some.ensures ∙ w.if-is_some.false))) in
          asked (w.all-is ∙ ap with (sym (ap (option_and_then (λ (resv : ResvFact). repair_of r s (row.0, resv))) gone))) c.loop-row.invariant
    ]

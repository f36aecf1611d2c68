-- Where none falls, all are left.
use Rattle.std.proofs.Common.{◌≡◌, List, subst, sym, ◌∙◌}
use Rattle.std.proofs.lemmas.Bool.{eqb-true}
use Rattle.std.proofs.lemmas.List.{nil_from_length}
use Rattle.lsr_facts.specs.declared.key.Key.{Key}
use Rattle.abstract_router.specs.Repairing.{repairs_left}
use Rattle.state_views.specs.Edits.{edited, without_rows}
use Rattle.state_settling.specs.FallingLaws.{repairs_standing_left}
use Rattle.state_settling.proofs.standing.take_repairs.Goals as goal

pub returns-then-is_empty : goal.returns-then-is_empty
returns-then-is_empty g c =
    let r = g.V.StateView.router c.args.view.now in
    let s = g.V.StateView.state c.args.view.now in
    let e = c.args.edits.now in
    let none = nil_from_length c.in_ok-gone.gone.items (sym c.in_ok-gone.gone.ok.0 ∙ eqb-true c.in_ok-gone.gone.len 0 (sym c.is_empty.ensures ∙ c.if-is_empty.true)) in
    subst (λ (gone : List Key). edited (record e { repairs = without_rows e.repairs gone }) s ≡ repairs_left r (edited e s)) none
    (repairs_standing_left r s e c.in_ok-gone.gone.items c.requires.order c.in_ok-gone.ensures)

-- One LSP more is looked at: the edit of its promise is put, if there is to be one.
use Rattle.std.proofs.Common.{[], ap, sym, ◌∙◌}
use Rattle.std.specs.Option.{option_copied}
use Rattle.lsr_facts.specs.OrderLaws.{key_exact, key_total}
use Rattle.lsr_facts.specs.Orders.{key_cmp}
use Rattle.state_settling.specs.Promises.{promise_edit}
use Rattle.make_before_break.proofs.Asking.{none_asked, place_asked}
use Rattle.state_settling.proofs.promises.edits_of_known.Goals as goal
use Rattle.state_settling.proofs.promises.edits_of_known.Goals.{in-Some+in_ok-all, in_default}

pub loop-place-preserved : goal.loop-place-preserved
loop-place-preserved g c =
    let before = (g.V.StateView.state c.args.view.now).assignments in
    let known = c.loop-place.all in
    elim c.match-assignment_at.branch [
      | in-Some+in_ok-all w ↦
          place_asked key_cmp key_total key_exact before c.loop-place.place (promise_edit before c.args.now.now) [] known c.match-assignment_at.all w.in-Some.row.now
          (sym c.assignment_at.ensures.row ∙ ap option_copied w.in-Some.is) (w.all-is ∙ w.in_ok-all.ensures) c.loop-place.invariant
      | in_default w ↦
          none_asked key_cmp key_total key_exact before c.loop-place.place (promise_edit before c.args.now.now) [] known c.match-assignment_at.all
          (sym c.assignment_at.ensures.row ∙ ap option_copied w.in_default.is) w.all-is c.loop-place.invariant
    ]

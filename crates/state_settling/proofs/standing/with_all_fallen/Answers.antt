-- One LSP more is looked at: where what it has stands no more, it is put at the end.
use Rattle.std.proofs.Common.{Some, None, append-nil, sym, ◌∙◌}
use Rattle.make_before_break.proofs.Places.{one_more_at}
use Rattle.state_settling.specs.Falling.{failing_key}
use Rattle.state_settling.proofs.standing.with_all_fallen.Goals as goal
use Rattle.state_settling.proofs.standing.with_all_fallen.Goals.{in-Some+in_ok-push, in_default}

pub loop-place-preserved : goal.loop-place-preserved
loop-place-preserved g c =
    let r = g.A.StateView.router c.args.after.now in
    let s = g.A.StateView.state c.args.after.now in
    let falls = λ (row : _ × _). failing_key (g.S.Falling.row_stands r s) (g.S.Falling.rows s) row.0 in
    let before = c.loop-place.keys.items in
    let after = c.match-fallen_at.keys.items in
    let rows = g.S.Falling.rows (g.V.StateView.state c.args.before.now) in
    let at = c.loop-place.place in
    elim c.match-fallen_at.branch [
      | in-Some+in_ok-push w ↦ one_more_at falls c.args.keys.items before after rows at (Some w.in-Some.key) c.loop-place.invariant (sym w.in-Some.is ∙ c.fallen_at.ensures) ((λ k. (w.keys-is k).items) ∙ w.in_ok-push.ensures.items)
      | in_default w ↦ one_more_at falls c.args.keys.items before after rows at None c.loop-place.invariant (sym w.in_default.is ∙ c.fallen_at.ensures) ((λ k. (w.keys-is k).items) ∙ sym (append-nil before))
    ]

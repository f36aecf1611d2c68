-- One LSP more is looked at: where what it has stands no more, it is put at the end.
use Rattle.std.proofs.Common.{Some, None, append-nil, ap, refl, sym, ◌∙◌}
use Rattle.std.specs.Option.{option_and_then}
use Rattle.std.proofs.lemmas.Option.{slice_get_read}
use Rattle.make_before_break.proofs.Places.{one_more_at}
use Rattle.state_settling.specs.Falling.{failing_key}
use Rattle.state_settling.proofs.standing.with_fallen.Goals as goal
use Rattle.state_settling.proofs.standing.with_fallen.Goals.{in-Some+in_ok-push, in_default}

pub loop-edit-preserved : goal.loop-edit-preserved
loop-edit-preserved g c =
    let r = g.A.StateView.router c.args.after.now in
    let s = g.A.StateView.state c.args.after.now in
    let falls = λ (edit : _ × _). failing_key (g.S.Falling.row_stands r s) (g.S.Falling.rows s) edit.0 in
    let before = c.loop-edit.keys.items in
    let after = c.match-fallen_key.keys.items in
    let edits = c.args.edits.now in
    let at = c.loop-edit.edit-index in
    let edit = c.edit-item.result in
    let gives = c.fallen_key.ensures ∙ ap (option_and_then falls) (sym (slice_get_read edits _ at edit refl c.loop-edit-test.true c.edit-item.is)) in
    elim c.match-fallen_key.branch [
      | in-Some+in_ok-push w ↦ one_more_at falls c.args.keys.items before after edits at (Some w.in-Some.key) c.loop-edit.invariant (sym w.in-Some.is ∙ gives) ((λ k. (w.keys-is k).items) ∙ w.in_ok-push.ensures.items)
      | in_default w ↦ one_more_at falls c.args.keys.items before after edits at None c.loop-edit.invariant (sym w.in_default.is ∙ gives) ((λ k. (w.keys-is k).items) ∙ sym (append-nil before))
    ]

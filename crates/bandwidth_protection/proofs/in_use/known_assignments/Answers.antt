-- One row more is copied.
use Rattle.std.proofs.Common.{◌++◌, ◌∷◌, [], Some, None, ap, append-nil, sym, ◌∙◌}
use Rattle.std.specs.Option.{option_copied}
use Rattle.bandwidth_protection.proofs.Placing.{taken_more}
use Rattle.bandwidth_protection.proofs.in_use.known_assignments.Goals as goal
use Rattle.bandwidth_protection.proofs.in_use.known_assignments.Goals.{in-Some+in_ok-push, in_default}

pub loop-place-preserved : goal.loop-place-preserved
loop-place-preserved g c =
    let rows = (g.V.StateView.state c.args.view.now).assignments in
    let at = c.loop-place.place in
    elim c.match-assignment_at.branch [
      | in-Some+in_ok-push w ↦
          (λ k. (w.rows-is k).items) ∙ w.in_ok-push.ensures.items
          ∙ (λ k. c.loop-place.invariant k ++ w.in-Some.row.now ∷ [])
          ∙ sym (taken_more rows at (Some w.in-Some.row.now) (sym c.assignment_at.ensures.row ∙ ap option_copied w.in-Some.is))
      | in_default w ↦
          (λ k. (w.rows-is k).items) ∙ c.loop-place.invariant ∙ sym (append-nil _)
          ∙ sym (taken_more rows at None (sym c.assignment_at.ensures.row ∙ ap option_copied w.in_default.is))
    ]

-- One LSP more that is known: it is put among the keys.
use Rattle.std.proofs.Common.{◌<◌, ap, length, subst, sym, ◌∙◌}
use Rattle.std.specs.Option.{option_copied}
use Rattle.std.proofs.lemmas.Option.{get_or_from_slice_get}
use Rattle.state_sends.proofs.Touching.{none_past, one_known}
use Rattle.state_sends.proofs.touched.known_lsps.Goals as goal
use Rattle.state_sends.proofs.touched.known_lsps.Goals.{in-Some+in_ok-set, in_default}

pub loop-place-preserved : goal.loop-place-preserved
loop-place-preserved g c =
    let paths = (g.V.StateView.state c.args.view.now).facts.paths in
    let place = c.loop-place.place in
    let within : place < length paths = subst (λ n. place < n) c.path_count-place-end.ensures.count c.loop-place-test.true in
    elim c.match-path_at.branch [
      | in-Some+in_ok-set w ↦
          let row = w.in-Some.row.now in
          one_known paths place row c.loop-place.all c.match-path_at.all within
          (sym (get_or_from_slice_get paths place row row (sym c.path_at.ensures.row ∙ ap option_copied w.in-Some.is))) (w.all-is ∙ w.in_ok-set.ensures.ok) c.loop-place.invariant
      | in_default w ↦ absurd (none_past paths place within (sym c.path_at.ensures.row ∙ ap option_copied w.in_default.is))
    ]

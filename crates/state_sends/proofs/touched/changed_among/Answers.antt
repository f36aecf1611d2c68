-- One LSP more is compared, and put among the others where messages don't say the same of it.
use Rattle.std.proofs.Common.{◌∙◌}
use Rattle.state_views.specs.Edits.{edited}
use Rattle.state_sends.specs.Touching.{IsSaidAgain}
use Rattle.state_sends.proofs.Touching.{one_changed, one_same}
use Rattle.state_sends.proofs.touched.changed_among.Goals as goal
use Rattle.state_sends.proofs.touched.changed_among.Goals.{then-not-is_same+in_ok-set, else-not-is_same}

pub loop-row-preserved : goal.loop-row-preserved
loop-row-preserved g c =
    let s = g.V.StateView.state c.args.view.now in
    let same = IsSaidAgain g.I.KeptAlive.said s (edited c.args.edits.now s) in
    let lsps = c.args.lsps.now in
    let row = c.row-item.result in
    elim c.if-not-is_same.branch [
      | then-not-is_same+in_ok-set w ↦ one_changed same lsps c.loop-row.row-index row c.loop-row.changed c.if-not-is_same.changed c.loop-row-test.true c.row-item.is c.loop-row.invariant (w.changed-is ∙ w.in_ok-set.ensures.ok)
      | else-not-is_same w ↦ one_same same lsps c.loop-row.row-index row c.loop-row.changed c.if-not-is_same.changed c.loop-row-test.true c.row-item.is c.loop-row.invariant w.changed-is (c.is_same.ensures w.if-not-is_same.false)
    ]

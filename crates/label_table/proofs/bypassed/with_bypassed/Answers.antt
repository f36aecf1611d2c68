-- Where bypasses run over something else, all that is repaired is among them.
use Rattle.state_views.specs.Edits.{edited}
use Rattle.label_table.proofs.Bypassing.{repaired_are}
use Rattle.label_table.proofs.bypassed.with_bypassed.Goals as goal

pub returns : goal.returns
returns g c =
    let s = g.V.StateView.state c.args.view.now in
    repaired_are (g.V.StateView.router c.args.view.now) s (edited c.args.edits.now s) c.args.keys c.with_repaired.result c.with_repaired.ensures

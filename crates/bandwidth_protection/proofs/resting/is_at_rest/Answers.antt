-- An LSP is at rest that is unconcerned, or the same but for when it expires.
use Rattle.std.proofs.Common.{sym, ◌∙◌}
use Rattle.state_views.specs.Edits.{edited}
use Rattle.bandwidth_protection.specs.RestingLaws.{same_but_expiry, unconcerned}
use Rattle.bandwidth_protection.proofs.resting.is_at_rest.Goals as goal

pub returns-then-is_unconcerned : goal.returns-then-is_unconcerned
returns-then-is_unconcerned g c said =
    let s = g.V.StateView.state c.args.view.now in
    unconcerned s (edited c.args.edits.now s) c.args.key.now (sym c.is_unconcerned.ensures ∙ c.if-is_unconcerned.true)

pub returns : goal.returns
returns g c said =
    let s = g.V.StateView.state c.args.view.now in
    same_but_expiry s (edited c.args.edits.now s) c.args.key.now
    (c.leaves_repair.ensures c.if-not-leaves_repair.false) (c.leaves_resv.ensures c.if-not-leaves_resv.false) (c.leaves_path.ensures said)

-- Edits of no tunnel in which a bypass runs.
use Rattle.std.proofs.Common.{ap, sym, ◌∙◌}
use Rattle.facility_backup.proofs.Rows.{untouched_around}
use Rattle.facility_backup.specs.Carrying.{leaves_tunnels}
use Rattle.facility_backup.proofs.surroundings.is_same_around.Goals as goal

pub returns-then-leaves_tunnels : goal.returns-then-leaves_tunnels
returns-then-leaves_tunnels g c said =
    untouched_around (g.V.StateView.router c.args.view.now) (g.V.StateView.state c.args.view.now) c.args.edits.now _
    (sym c.is_some.ensures ∙ c.if-is_some.false) (sym c.is_some-else-is_some.ensures ∙ c.if-is_some-2.false) (sym c.is_some-else-is_some-2.ensures ∙ c.if-is_some-3.false)
    (c.as_slice-bypasses.ensures.rows ∙ c.bypasses.ensures.bypasses)
    (ap (λ r. leaves_tunnels r c.as_slice-bypasses.result.now c.args.edits.now) (sym c.node.ensures.router) ∙ sym c.leaves_tunnels.ensures ∙ c.if-leaves_tunnels.true)

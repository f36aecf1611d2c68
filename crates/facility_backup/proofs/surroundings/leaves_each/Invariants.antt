use Rattle.std.proofs.Common.{◌≡◌, take}
use Rattle.std.specs.Prelude.{filter_map}
use Rattle.facility_backup.specs.Asking.{row_by}
use Rattle.state_views.specs.Edits.{edited}
use Rattle.facility_backup.proofs.surroundings.leaves_each.Given as goal

-- so many bypasses are as they were
abbrev pub invariant-loop-bypass : goal.invariant-loop-bypass
invariant-loop-bypass g l =
    filter_map (row_by (g.V.StateView.router l.view) (g.V.StateView.state l.view)) (take l.bypass-index l.bypasses)
    ≡ filter_map (row_by (g.V.StateView.router l.view) (edited l.edits (g.V.StateView.state l.view))) (take l.bypass-index l.bypasses)

-- Whenever a reservation expires, its LSP is protected alike.
use Rattle.std.proofs.Common.{◌∙◌}
use Rattle.facility_backup.proofs.Rows.{own_ready}
use Rattle.facility_backup.proofs.selecting.bypass_flags.Goals as goal

pub returns-in-Some-clause-flags : goal.returns-in-Some-clause-flags
returns-in-Some-clause-flags g c = c.flags_ready.ensures.flags ∙ own_ready _ (g.V.StateView.state c.args.view.now) _ _ _ c.in-Some.ensures.resv

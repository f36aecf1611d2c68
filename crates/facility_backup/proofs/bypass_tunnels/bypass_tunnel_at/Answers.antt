-- The bypass of a number is that of its row.
use Rattle.std.proofs.Common.{◌∙◌}
use Rattle.facility_backup.proofs.Rows.{found_bypass_tunnel}
use Rattle.facility_backup.proofs.bypass_tunnels.bypass_tunnel_at.Goals as goal

pub returns-in-Some : goal.returns-in-Some
returns-in-Some g c = c.bypass_tunnel_by.ensures ∙ found_bypass_tunnel _ _ _ _ _ c.as_slice.ensures.sorted c.bypasses-bypasses.ensures.bypasses c.in-Some.ensures.found

pub returns-in-None : goal.returns-in-None
returns-in-None g c = found_bypass_tunnel _ _ _ _ _ c.as_slice.ensures.sorted c.bypasses-bypasses.ensures.bypasses c.in-None.ensures.found

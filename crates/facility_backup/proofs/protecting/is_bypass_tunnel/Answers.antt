-- A bypass runs in a tunnel where that is there, and a bypass names it.
use Rattle.std.proofs.Common.{◌∙◌, refl}
use Rattle.facility_backup.proofs.Rows.{carried}
use Rattle.facility_backup.proofs.protecting.is_bypass_tunnel.Goals as goal

pub returns-in-Some : goal.returns-in-Some
returns-in-Some g c = c.names_tunnel.ensures ∙ carried _ _ _ _ _ (c.as_slice.ensures.rows ∙ c.bypasses.ensures.bypasses) c.in-Some.ensures.tunnel

pub returns-in-None : goal.returns-in-None
returns-in-None g c = carried _ _ _ _ _ refl c.in-None.ensures.tunnel

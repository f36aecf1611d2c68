-- Of the LSP that is to take the current one's place the ID alone is read.
use Rattle.fact_fields.proofs.Untold.{made_with}
use Rattle.fact_fields.proofs.tunnels.tunnel_of.Goals as goal

pub returns : goal.returns
returns c = made_with c.args.parts c.in_ok-pending.pending c.in_ok-pending.ensures

use Rattle.std.proofs.Common.{◌∙◌}
use Rattle.forwarding_table.proofs.Rows.{find-writes}
use Rattle.forwarding_table.proofs.table.ForwardingTable.look_tunnel.Goals as goal

pub returns-clause-labels : goal.returns-clause-labels
returns-clause-labels c = rw (c.copied.ensures ∙ c.get.ensures.found) (find-writes c.args.tunnel c.self.inside.tunnels c.self.invariant.tunnels)

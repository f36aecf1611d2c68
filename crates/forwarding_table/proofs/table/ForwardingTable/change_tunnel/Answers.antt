use Rattle.std.proofs.Common.{Some, None}
use Rattle.forwarding_table.proofs.Rows.{at_key-write}
use Rattle.forwarding_table.proofs.table.ForwardingTable.change_tunnel.Goals as goal

pub invariant_of-self : goal.invariant_of-self
invariant_of-self c = record {
  tunnels = rw c.set.ensures (at_key-write c.args.tunnel (Some c.in-Some.action) c.self.inside.tunnels (rw c.in-Some.is at c.requires.labels) c.self.invariant.tunnels);
  labels = c.self.invariant.labels;
}

pub invariant_of-self-in-None : goal.invariant_of-self-in-None
invariant_of-self-in-None c = record {
  tunnels = rw c.remove.ensures (at_key-write c.args.tunnel None c.self.inside.tunnels tt c.self.invariant.tunnels);
  labels = c.self.invariant.labels;
}

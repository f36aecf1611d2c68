use Rattle.std.proofs.Common.{Some, None}
use Rattle.forwarding_table.proofs.Rows.{at_key-write}
use Rattle.forwarding_table.proofs.table.ForwardingTable.change.Goals as goal

pub invariant_of-self : goal.invariant_of-self
invariant_of-self c = record {
  labels = rw c.set.ensures (at_key-write c.args.label (Some c.in-Some.action) c.self.inside.labels (rw c.in-Some.is at c.requires.labels) c.self.invariant.labels);
  tunnels = c.self.invariant.tunnels;
}

pub invariant_of-self-in-None : goal.invariant_of-self-in-None
invariant_of-self-in-None c = record {
  labels = rw c.remove.ensures (at_key-write c.args.label None c.self.inside.labels tt c.self.invariant.labels);
  tunnels = c.self.invariant.tunnels;
}

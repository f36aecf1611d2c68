use Rattle.forwarding_table.proofs.Rows.{edited-write}
use Rattle.forwarding_table.proofs.table.ForwardingTable.edit.Goals as goal

pub invariant_of-self : goal.invariant_of-self
invariant_of-self c = record {
  labels = rw c.make_edits.ensures (edited-write c.args.edits c.self.inside.labels c.requires.labels c.self.invariant.labels);
  tunnels = c.self.invariant.tunnels;
}

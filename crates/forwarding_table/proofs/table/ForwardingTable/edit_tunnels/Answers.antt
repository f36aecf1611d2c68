use Rattle.forwarding_table.proofs.Rows.{edited-write}
use Rattle.forwarding_table.proofs.table.ForwardingTable.edit_tunnels.Goals as goal

pub invariant_of-self : goal.invariant_of-self
invariant_of-self c = record {
  tunnels = rw c.make_edits.ensures (edited-write c.args.edits c.self.inside.tunnels c.requires.labels c.self.invariant.tunnels);
  labels = c.self.invariant.labels;
}

use Rattle.std.proofs.Common.{◌∙◌}
use Rattle.forwarding_table.proofs.Rows.{find-writes}
use Rattle.forwarding_table.proofs.table.ForwardingTable.look.Goals as goal

pub returns-clause-labels : goal.returns-clause-labels
returns-clause-labels c = rw (c.copied.ensures ∙ c.get.ensures.found) (find-writes c.args.label c.self.inside.labels c.self.invariant.labels)

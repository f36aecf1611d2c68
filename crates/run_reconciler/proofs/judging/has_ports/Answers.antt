use Rattle.run_reconciler.proofs.OwnPorts.{of_ports}
use Rattle.run_reconciler.proofs.judging.has_ports.Goals as goal

pub returns : goal.returns
returns c = rw c.marks.ensures (of_ports c.args.from.now c.args.ports c.requires)

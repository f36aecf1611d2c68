use Rattle.std.proofs.Common.{take}
use Rattle.lsr_config.proofs.Capacities.{CarryAll}
use Rattle.lsr_config.proofs.bypasses.check_capacity.Given as goal

abbrev pub invariant-loop-row : goal.invariant-loop-row
invariant-loop-row l = CarryAll l.tunnel l.capacity (take l.row-index l.tunnels)

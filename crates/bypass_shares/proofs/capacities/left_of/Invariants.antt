-- What is left beside the assignments so far.
use Rattle.std.proofs.Common.{take}
use Rattle.bypass_shares.specs.Left.{AreLeft}
use Rattle.bypass_shares.specs.Shares.{capacity_in}
use Rattle.bypass_shares.proofs.capacities.left_of.Given as goal

abbrev pub invariant-loop-row : goal.invariant-loop-row
invariant-loop-row l = AreLeft (capacity_in l.bypasses) l.left (take l.row-index l.in_use)

-- A whole token bucket names its service.
use Rattle.std.proofs.Common.{arith}
use Rattle.wanted_messages.proofs.reserved.reserved_by_end.Goals as goal

pub of_tspec-requires : goal.of_tspec-requires
of_tspec-requires c = omega (arith, c.requires)

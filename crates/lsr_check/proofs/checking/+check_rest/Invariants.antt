-- One file less each time.
use Rattle.std.proofs.Common.{length}
use Rattle.lsr_check.proofs.checking.+check_rest.Given as goal

abbrev pub decreases-check_rest : goal.decreases-check_rest
decreases-check_rest g l = length l.names.now

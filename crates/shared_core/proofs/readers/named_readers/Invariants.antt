-- The readers so far are those that were taken.
use Rattle.std.proofs.Common.{◌≡◌}
use Rattle.shared_core.proofs.readers.named_readers.Given as goal

abbrev pub invariant-loop-reader : goal.invariant-loop-reader
invariant-loop-reader g l = l.named.items ≡ l.yielded

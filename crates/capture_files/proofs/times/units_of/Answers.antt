-- A power of 10 isn't 0.
use Rattle.std.proofs.Common.{arith, lit<}
use Rattle.std.proofs.Math.Nat.{one-le-pow}
use Rattle.capture_files.proofs.times.units_of.Goals as goal

pub returns-then-resolution-lt-DECIMAL_END-clause-some : goal.returns-then-resolution-lt-DECIMAL_END-clause-some
returns-then-resolution-lt-DECIMAL_END-clause-some c = omega (arith, c.pow.ensures, one-le-pow c.from.result 10 (lit< tt))

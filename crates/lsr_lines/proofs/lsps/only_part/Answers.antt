-- Behind a slash there is another part.
use Rattle.std.proofs.Common.{arith, ap, length}
use Rattle.lsr_lines.proofs.PartLaws.{more_parts}
use Rattle.lsr_lines.proofs.lsps.only_part.Goals as goal

pub returns-then-is_some : goal.returns-then-is_some
returns-then-is_some c = λ one. omega (arith, one, ap length c.in_ok-part.ensures, more_parts c.in_ok-part.left c.if-is_some.ensures)

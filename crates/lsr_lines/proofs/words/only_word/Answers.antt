-- Behind a space there is another word.
use Rattle.std.proofs.Common.{arith, ap, length}
use Rattle.lsr_lines.proofs.WordLaws.{more_words}
use Rattle.lsr_lines.proofs.words.only_word.Goals as goal

pub returns-then-is_some : goal.returns-then-is_some
returns-then-is_some c = λ one. omega (arith, one, ap length c.in_ok-word.ensures, more_words c.in_ok-word.left c.if-is_some.ensures)

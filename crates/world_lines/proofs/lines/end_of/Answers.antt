-- What is left of a line has a word.
use Rattle.std.proofs.Common.{◌≢◌, List, ℕ, [], Option, Bor, subst, sym}
use Rattle.lsr_lines.specs.Commands.{words_left}
use Rattle.world_lines.proofs.LineLaws.{some_words}
use Rattle.world_lines.proofs.lines.end_of.Goals as goal

pub returns-in-Some : goal.returns-in-Some
returns-in-Some c = subst (λ (left : Option (Bor (List ℕ))). words_left left ≢ []) (sym c.in-Some.is) (some_words c.in-Some._rest.now)

-- The first space ends the word.
use Rattle.std.proofs.Common.{Some, None, ap, ◌∙◌, arith}
use Rattle.std.proofs.lemmas.Str.Pattern.{split_parts}
use Rattle.lsr_lines.specs.Commands.{words_left}
use Rattle.lsr_lines.proofs.WordLaws.{words_cut, words_whole}
use Rattle.lsr_lines.proofs.words.next_word.Goals as goal

pub returns-in-Some : goal.returns-in-Some
returns-in-Some c =
    let parts = split_parts 32 c.in_ok-text.text.now (Some (c.in-Some.word, c.in-Some.rest)) c.in-Some.ensures.cases (omega arith) in
    ap words_left c.in_ok-text.was ∙ words_cut c.in_ok-text.text.now c.in-Some.word.now c.in-Some.rest.now parts.0 parts.1

pub returns-in-None : goal.returns-in-None
returns-in-None c =
    ap words_left c.in_ok-text.was ∙ words_whole c.in_ok-text.text.now (split_parts 32 c.in_ok-text.text.now None c.in-None.ensures.cases (omega arith))

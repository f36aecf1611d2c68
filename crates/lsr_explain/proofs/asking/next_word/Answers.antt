-- Where there is a space the text is cut there, and else it is one word.
use Rattle.std.proofs.Common.{rules, arith, ap, ◌∙◌, Some, None}
use Rattle.std.proofs.lemmas.Str.Pattern.{split_parts}
use Rattle.lsr_explain.specs.Asking.{words_in}
use Rattle.lsr_explain.proofs.AskingLaws.{word_cut, word_last}
use Rattle.lsr_explain.proofs.asking.next_word.Goals as goal

pub returns-in-Some-clause-word : goal.returns-in-Some-clause-word
returns-in-Some-clause-word c =
    let parts = split_parts 32 c.args.text.now (Some (c.in-Some.word, c.in-Some.rest)) c.in-Some.ensures.cases (omega arith) in
    ap words_in parts.0 ∙ word_cut c.in-Some.word.now c.in-Some.rest.now parts.1

pub returns-in-None-clause-word : goal.returns-in-None-clause-word
returns-in-None-clause-word c =
    word_last c.args.text.now (search rules) (split_parts 32 c.args.text.now None c.in-None.ensures.cases (omega arith))

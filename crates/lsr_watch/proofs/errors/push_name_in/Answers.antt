-- The name is what stands after the heading's first space.
use Rattle.std.proofs.Common.{rules, arith, ap, ◌∙◌}
use Rattle.std.proofs.lemmas.Str.Pattern.{split_parts}
use Rattle.std.specs.Prelude.{Some, None}
use Rattle.lsr_explain.specs.Topics.{words_of}
use Rattle.lsr_watch.proofs.HeadingNames.{no_words, words_cut}
use Rattle.lsr_watch.proofs.errors.push_name_in.Goals as goal

pub returns-in-Some : goal.returns-in-Some
returns-in-Some c =
    let parts = split_parts 32 c.args.heading.now (Some (c.in-Some._first, c.in-Some.name)) c.in-Some.ensures.cases (omega arith) in
    let words = ap words_of parts.0 ∙ words_cut c.in-Some._first.now c.in-Some.name.now parts.1 in
    rw words (search rules)

pub returns-in-None : goal.returns-in-None
returns-in-None c =
    let none = no_words c.args.heading.now (split_parts 32 c.args.heading.now None c.in-None.ensures.cases (omega arith)) in
    rw none (search rules)

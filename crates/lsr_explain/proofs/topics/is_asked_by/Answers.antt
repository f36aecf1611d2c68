-- The heading is cut at its first space.
use Rattle.std.proofs.Common.{rules, arith, ap, sym, ◌∙◌, Some, None, false}
use Rattle.std.specs.Prelude.{if◌then◌else◌}
use Rattle.std.proofs.lemmas.Str.Pattern.{split_parts}
use Rattle.lsr_explain.specs.Topics.{is_one_of, is_same, words_of}
use Rattle.lsr_explain.proofs.TopicLaws.{asked_first, asked_name, no_words, words_cut}
use Rattle.lsr_explain.proofs.topics.is_asked_by.Goals as goal

pub returns-then-is_same : goal.returns-then-is_same
returns-then-is_same c =
    let parts = split_parts 32 c.args.heading.now (Some (c.in-Some.first, c.in-Some.name)) c.in-Some.ensures.cases (omega arith) in
    asked_first c.args.any_case c.args.named c.args.word.now c.args.heading.now c.in-Some.first.now c.in-Some.name.now c.is_same.result (ap words_of parts.0 ∙ words_cut c.in-Some.first.now c.in-Some.name.now parts.1) c.is_same.ensures c.if-is_same.true

pub returns-then-named : goal.returns-then-named
returns-then-named c =
    let parts = split_parts 32 c.args.heading.now (Some (c.in-Some.first, c.in-Some.name)) c.in-Some.ensures.cases (omega arith) in
    asked_name c.args.any_case c.args.named c.args.word.now c.args.heading.now c.in-Some.first.now c.in-Some.name.now c.is_same.result c.is_same-then-named.result (ap words_of parts.0 ∙ words_cut c.in-Some.first.now c.in-Some.name.now parts.1) c.is_same.ensures
    c.if-is_same.false (rw c.if-named.true c.is_same-then-named.ensures)

pub returns-else-named : goal.returns-else-named
returns-else-named c =
    let parts = split_parts 32 c.args.heading.now (Some (c.in-Some.first, c.in-Some.name)) c.in-Some.ensures.cases (omega arith) in
    asked_name c.args.any_case c.args.named c.args.word.now c.args.heading.now c.in-Some.first.now c.in-Some.name.now c.is_same.result false (ap words_of parts.0 ∙ words_cut c.in-Some.first.now c.in-Some.name.now parts.1) c.is_same.ensures
    c.if-is_same.false (sym (ap (λ n. if n then is_same c.args.any_case c.in-Some.name.now c.args.word.now else false) c.if-named.false))

pub returns-in-None : goal.returns-in-None
returns-in-None c =
    let none = no_words c.args.heading.now (split_parts 32 c.args.heading.now None c.in-None.ensures.cases (omega arith)) in
    c.is_same-in-None.ensures ∙ sym (ap (is_one_of c.args.any_case c.args.named c.args.word.now c.args.heading.now) none)

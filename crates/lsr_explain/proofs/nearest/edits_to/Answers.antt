-- The heading is cut at its first space.
use Rattle.std.proofs.Common.{◌≡◌, ◌∙◌, rules, arith, ap, sym, subst, Some, None, IfOk}
use Rattle.std.proofs.lemmas.Str.Pattern.{split_parts}
use Rattle.lsr_explain.specs.Nearest.{edits_by}
use Rattle.lsr_explain.specs.Topics.{has_names, words_of}
use Rattle.lsr_explain.proofs.Nearness.{by_first, by_name}
use Rattle.lsr_explain.proofs.TopicLaws.{no_words, words_cut}
use Rattle.lsr_explain.proofs.nearest.edits_to.Goals as goal

pub returns-in_default : goal.returns-in_default
returns-in_default c =
    let none = no_words c.args.heading.now (split_parts 32 c.args.heading.now None (search rules) (omega arith)) in
    subst (λ words. IfOk c.levenshtein.result (λ n. n ≡ edits_by (has_names c.args.kind) c.args.word.now c.args.heading.now words)) (sym none) c.levenshtein.ensures.value

pub returns-then-not-has_names : goal.returns-then-not-has_names
returns-then-not-has_names c =
    let parts = split_parts 32 c.args.heading.now (Some (c.in-Some.first, c.in-Some.name)) c.in-Some.ensures.cases (omega arith) in
    let words = ap words_of parts.0 ∙ words_cut c.in-Some.first.now c.in-Some.name.now parts.1 in
    by_first (has_names c.args.kind) c.args.word.now c.args.heading.now c.in-Some.first.now c.in-Some.name.now c.in_ok-by_first.by_first words (search rules) c.in_ok-by_first.ensures.value

pub returns : goal.returns
returns c =
    let parts = split_parts 32 c.args.heading.now (Some (c.in-Some.first, c.in-Some.name)) c.in-Some.ensures.cases (omega arith) in
    let words = ap words_of parts.0 ∙ words_cut c.in-Some.first.now c.in-Some.name.now parts.1 in
    by_name (has_names c.args.kind) c.args.word.now c.args.heading.now c.in-Some.first.now c.in-Some.name.now c.in_ok-by_first.by_first c.in_ok-by_name.by_name c.min.result words (search rules) c.in_ok-by_first.ensures.value c.in_ok-by_name.ensures.value (search rules)

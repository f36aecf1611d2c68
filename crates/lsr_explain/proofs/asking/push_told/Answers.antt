-- A text without words.
use Rattle.std.proofs.Common.{rules, ap, ◌∙◌}
use Rattle.lsr_explain.specs.Asking.{words_in}
use Rattle.lsr_explain.proofs.AskingLaws.{no_word}
use Rattle.lsr_explain.proofs.TopicLaws.{none_by}
use Rattle.lsr_explain.proofs.asking.push_told.Goals as goal

pub returns-in_default : goal.returns-in_default
returns-in_default c =
    let none = ap words_in (c.next_word.ensures.end.0 (none_by c.next_word.result c.in_default.not-Some)) ∙ no_word in
    rw none (search rules)

-- A code that no word stands after.
use Rattle.std.proofs.Common.{rules, ap, ◌∙◌}
use Rattle.lsr_explain.specs.Asking.{words_in}
use Rattle.lsr_explain.proofs.AskingLaws.{no_word}
use Rattle.lsr_explain.proofs.asking.push_error.Goals as goal

pub returns-in-None : goal.returns-in-None
returns-in-None c =
    let none = ap words_in (c.in-None.ensures.end.0 (search rules)) ∙ no_word in
    rw none (search rules)

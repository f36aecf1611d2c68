-- What was found nowhere is unknown.
use Rattle.std.proofs.Common.{rules, sym, ◌∙◌}
use Rattle.lsr_explain.specs.Topics.{seen}
use Rattle.lsr_explain.proofs.TopicLaws.{neither, no_error, none_of}
use Rattle.lsr_explain.proofs.explaining.explain.Goals as goal

pub returns : goal.returns
returns c = (
  sym c.find_named.ensures ∙ none_of seen c.find_named.result c.in_default.not-Some,
  search rules,
  λ topic value.
      neither (no_error _ _ c.find_error.result c.in_default-find_error.not-Some c.find_error.ensures topic value)
      (no_error _ _ c.find_error-2.result c.in_default-find_error-2.not-Some c.find_error-2.ensures topic value),
)

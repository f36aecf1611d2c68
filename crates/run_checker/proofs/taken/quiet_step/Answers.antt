-- An entry that has labels says more than an event that gives none.
use Rattle.std.specs.Prelude.{◌==◌, ℕ, List}
use Rattle.std.proofs.Common.{ap, length, sym, ◌∙◌}
use Rattle.lsr_facts.specs.declared.key.Key.{Key}
use Rattle.run_checker.proofs.Steps.{quiet_wrong}
use Rattle.run_checker.proofs.taken.quiet_step.Goals as goal

pub returns-then-not-is_empty-clause-wrong : goal.returns-then-not-is_empty-clause-wrong
returns-then-not-is_empty-clause-wrong c = λ r s event spelled step.
    quiet_wrong r s event c.args.reply c.args.change step c.args.entry.now c.new.result spelled c.new.ensures
    (λ none. let e = sym c.if-not-is_empty.true ∙ c.is_empty.ensures ∙ ap (λ (xs : List (Key × ℕ)). length xs == 0) (c.as_slice.ensures ∙ none) in cc)

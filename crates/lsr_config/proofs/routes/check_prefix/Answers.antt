use Rattle.std.proofs.Common.{refl, sym, ◌∙◌}
use Rattle.lsr_config.specs.Rules.{fault_of, new_prefix}
use Rattle.lsr_config.proofs.Judging.{kept_alone, broken_alone}
use Rattle.lsr_config.proofs.Telling.{prefix_is_new, prefix_is_repeated}
use Rattle.lsr_config.proofs.routes.check_prefix.Goals as goal

pub returns-then-has_prefix : goal.returns-then-has_prefix
unfolding fault_of
returns-then-has_prefix c = λ route earlier has says.
    broken_alone (new_prefix earlier route) _ (prefix_is_repeated c.args.prefix route earlier c.args.before.now has says (sym c.has_prefix.ensures ∙ c.if-has_prefix.true)) refl

pub returns : goal.returns
returns c = λ route earlier has says.
    (kept_alone (new_prefix earlier route) (prefix_is_new c.args.prefix route earlier c.args.before.now has says (sym c.has_prefix.ensures ∙ c.if-has_prefix.false)), tt)

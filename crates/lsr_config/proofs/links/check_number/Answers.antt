use Rattle.std.proofs.Common.{refl, sym, ◌∙◌}
use Rattle.lsr_config.specs.Rules.{fault_of, new_number}
use Rattle.lsr_config.proofs.Judging.{kept_alone, broken_alone}
use Rattle.lsr_config.proofs.Telling.{number_is_new, number_is_repeated}
use Rattle.lsr_config.proofs.links.check_number.Goals as goal

pub returns-then-has_number : goal.returns-then-has_number
unfolding fault_of
returns-then-has_number g c = λ first d earlier has says.
    broken_alone (new_number first earlier d) _ (number_is_repeated first c.args.number d earlier c.args.before.now has says (sym c.has_number.ensures ∙ c.if-has_number.true)) refl

pub returns : goal.returns
returns g c = λ first d earlier has says.
    (kept_alone (new_number first earlier d) (number_is_new first c.args.number d earlier c.args.before.now has says (sym c.has_number.ensures ∙ c.if-has_number.false)), tt)

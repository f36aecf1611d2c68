use Rattle.std.proofs.Common.{refl, sym, ◌∙◌}
use Rattle.lsr_config.specs.Rules.{fault_of, known_number}
use Rattle.lsr_config.proofs.Judging.{kept_alone, broken_alone}
use Rattle.lsr_config.proofs.Telling.{number_is_known, number_is_unknown}
use Rattle.lsr_config.proofs.links.check_named.Goals as goal

pub returns-then-has_number : goal.returns-then-has_number
returns-then-has_number g c = λ first d others has says.
    (kept_alone (known_number first c.args.key others d) (number_is_known first c.args.number c.args.key d others c.args.rows.now has says (sym c.has_number.ensures ∙ c.if-has_number.true)), tt)

pub returns : goal.returns
unfolding fault_of
returns g c = λ first d others has says.
    broken_alone (known_number first c.args.key others d) _ (number_is_unknown first c.args.number c.args.key d others c.args.rows.now has says (sym c.has_number.ensures ∙ c.if-has_number.false)) refl

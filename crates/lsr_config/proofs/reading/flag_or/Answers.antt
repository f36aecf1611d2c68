use Rattle.std.proofs.Common.{◌≡◌, refl, sym}
use Rattle.lsr_config.specs.Rules.{IsOfKind, a_flag}
use Rattle.lsr_config.specs.Values.{SaysFlag}
use Rattle.lsr_config.proofs.Judging.{default_judged, optional_judged}
use Rattle.lsr_config.proofs.reading.flag_or.Goals as goal

pub returns-in-Some : goal.returns-in-Some
unfolding IsOfKind
returns-in-Some c = optional_judged a_flag c.args.key _ SaysFlag (λ v. refl) (λ a. a ≡ c.args.default) _ _ _ (sym c.in-Some.ensures) c.flag_in.ensures c.said.ensures

pub returns-in-None : goal.returns-in-None
returns-in-None c = default_judged a_flag c.args.key _ _ _ (sym c.in-None.ensures) refl

use Rattle.std.proofs.Common.{◌≡◌, refl, sym}
use Rattle.lsr_config.specs.Rules.{IsOfKind, a_whole}
use Rattle.lsr_config.specs.Values.{SaysWhole}
use Rattle.lsr_config.proofs.Judging.{default_judged, optional_judged}
use Rattle.lsr_config.proofs.reading.whole_or.Goals as goal

pub returns-in-Some-clause-judged : goal.returns-in-Some-clause-judged
unfolding IsOfKind
returns-in-Some-clause-judged c = optional_judged (a_whole c.args.least c.args.most) c.args.key _ (SaysWhole c.args.least c.args.most) (λ v. refl) (λ a. a ≡ c.args.default) _ _ _ (sym c.in-Some.ensures) c.whole_in.ensures.found c.said.ensures

pub returns-in-None-clause-judged : goal.returns-in-None-clause-judged
returns-in-None-clause-judged c = default_judged (a_whole c.args.least c.args.most) c.args.key _ _ _ (sym c.in-None.ensures) refl

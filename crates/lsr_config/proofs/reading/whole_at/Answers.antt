use Rattle.std.proofs.Common.{refl}
use Rattle.std.proofs.lemmas.Result.{err_from_is_err_and}
use Rattle.lsr_config.specs.Rules.{IsOfKind, a_whole}
use Rattle.lsr_config.specs.Values.{SaysWhole}
use Rattle.lsr_config.proofs.Judging.{missing, needed_judged}
use Rattle.lsr_config.proofs.reading.whole_at.Goals as goal

pub returns-in_err-value-clause-judged : goal.returns-in_err-value-clause-judged
returns-in_err-value-clause-judged c =
    let p = err_from_is_err_and c.from_residual.result c.from_residual.ensures.1 in
    rw (p.1, p.2) (missing (a_whole c.args.least c.args.most) c.args.key _ _ c.in_err-value.ensures.0 c.in_err-value.ensures.1)

pub returns-clause-judged : goal.returns-clause-judged
unfolding IsOfKind
returns-clause-judged c = needed_judged (a_whole c.args.least c.args.most) c.args.key _ (SaysWhole c.args.least c.args.most) (λ v. refl) _ _ _ c.in_ok-value.ensures c.whole_in.ensures.found c.said.ensures

use Rattle.std.proofs.Common.{refl, arith}
use Rattle.lsr_config.specs.Rules.{fault_of, few, Holds}
use Rattle.lsr_config.proofs.Judging.{kept_alone, broken_alone}
use Rattle.lsr_config.proofs.reading.check_count.Goals as goal

pub returns-then-count-most : goal.returns-then-count-most
unfolding fault_of Holds
returns-then-count-most c = λ before count. broken_alone (few c.args.key c.args.most before) _ (λ holds. omega arith) refl

pub returns : goal.returns
unfolding Holds
returns c = λ before count. (kept_alone (few c.args.key c.args.most before) (omega arith), tt)

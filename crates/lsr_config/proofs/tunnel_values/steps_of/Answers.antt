use Rattle.std.proofs.Common.{subst}
use Rattle.lsr_config.specs.Values.{SaysEach, SaysStep}
use Rattle.lsr_config.proofs.Judging.{all_taken, one_more_says, says_at}
use Rattle.lsr_config.proofs.Routing.{bytes_said, few_said, too_many}
use Rattle.lsr_config.proofs.tunnel_values.steps_of.Goals as goal

pub returns-then-values-gt-MAX_STEPS : goal.returns-then-values-gt-MAX_STEPS
returns-then-values-gt-MAX_STEPS c = λ steps says. too_many c.args.values.now steps c.if-values-gt-MAX_STEPS.true says

pub loop-value-init : goal.loop-value-init
loop-value-init c = rw c.new-steps.ensures.items tt

pub returns-in_default : goal.returns-in_default
returns-in_default c = λ steps says.
    let there = says_at SaysStep c.args.values.now c.loop-value.value-index c.value-item.result steps c.loop-value-test.true c.value-item.is says.0 in
    c.in_default.ensures there.0 there.1

pub loop-value-preserved : goal.loop-value-preserved
loop-value-preserved c =
    rw c.in_ok-push.ensures.items (one_more_says SaysStep c.args.values.now c.loop-value.value-index c.value-item.result c.loop-value.steps.items _ c.loop-value-test.true c.value-item.is c.loop-value.invariant c.in-Some.ensures)

pub from_vec-requires : goal.from_vec-requires
from_vec-requires c = bytes_said c.args.values.now c.loop-value.value-index c.loop-value.steps.items c.if-values-gt-MAX_STEPS.false c.loop-value.invariant

pub returns : goal.returns
returns c =
    rw c.from_vec.ensures (
      subst (λ ds. SaysEach SaysStep ds c.loop-value.steps.items) (all_taken c.args.values.now c.loop-value.value-index c.loop-value-test.false) c.loop-value.invariant,
      few_said c.args.values.now c.loop-value.value-index c.loop-value.steps.items c.if-values-gt-MAX_STEPS.false c.loop-value.invariant,
    )

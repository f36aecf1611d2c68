use Rattle.std.proofs.Common.{refl, sym, ◌∙◌}
use Rattle.lsr_config.specs.Rules.{fault_of, carried}
use Rattle.lsr_config.proofs.Capacities.{capacity_exceeds, capacity_fits, carry_more, whole_at}
use Rattle.lsr_config.proofs.Judging.{kept_alone, broken_alone}
use Rattle.lsr_config.proofs.bypasses.check_capacity.Goals.{else-row-tunnel-via-then-row-tunnel+else-not-carries, else-row-tunnel-via-else-row-tunnel}
use Rattle.lsr_config.proofs.bypasses.check_capacity.Goals as goal

pub carries-requires-clause-current : goal.carries-requires-clause-current
carries-requires-clause-current c = (whole_at c.args.tunnels.now c.loop-row.row-index _ c.requires c.loop-row-test.true c.row-item.is).0

pub carries-requires-clause-pending : goal.carries-requires-clause-pending
carries-requires-clause-pending c = (whole_at c.args.tunnels.now c.loop-row.row-index _ c.requires c.loop-row-test.true c.row-item.is).1

pub returns-then-not-carries : goal.returns-then-not-carries
unfolding fault_of
returns-then-not-carries c = λ bypass others names has says.
    broken_alone (carried others bypass) _
    (capacity_exceeds c.args.tunnel c.args.capacity bypass others c.args.tunnels.now c.loop-row.row-index _ names has says c.loop-row-test.true c.row-item.is c.if-row-tunnel.true (sym c.carries.ensures ∙ c.if-not-carries.true)) refl

pub loop-row-preserved : goal.loop-row-preserved
loop-row-preserved c =
    carry_more c.args.tunnel c.args.capacity c.args.tunnels.now c.loop-row.row-index _ c.loop-row-test.true c.row-item.is c.loop-row.invariant
    (elim c.else-row-tunnel.branch [
      | else-row-tunnel-via-then-row-tunnel+else-not-carries w ↦ λ _. sym w.carries.ensures ∙ w.if-not-carries.false
      | else-row-tunnel-via-else-row-tunnel w ↦ λ same. absurd (w.if-row-tunnel.false same)
    ])

pub returns : goal.returns
returns c = λ bypass others names has says.
    (kept_alone (carried others bypass) (capacity_fits c.args.tunnel c.args.capacity bypass others c.args.tunnels.now c.loop-row.row-index names has says c.loop-row-test.false c.loop-row.invariant), tt)

-- No bypass of the state has more assigned than its capacity.
use Rattle.std.proofs.Common.{subst, sym}
use Rattle.abstract_router.specs.Soundness.{IsSound}
use Rattle.lsr_session.proofs.Within.{within_capacity}
use Rattle.lsr_session.proofs.shown.show_bypasses.Goals as goal

pub push_bypass_of-requires-clause-within : goal.push_bypass_of-requires-clause-within
push_bypass_of-requires-clause-within c =
    within_capacity c.args.router.now.router c.in_ok-state.state c.as_slice-row-items.result.now c.loop-row.row-index _
    (subst (IsSound c.args.router.now.router) (sym c.in_ok-state.ensures) c.soundness.ensures.sound) c.as_slice-row-items.ensures.rows c.loop-row-test.true

-- No bypass of the state has more assigned than its capacity.
use Rattle.std.proofs.Common.{subst, sym}
use Rattle.abstract_router.specs.Soundness.{IsSound}
use Rattle.lsr_session.proofs.Within.{within_capacity}
use Rattle.lsr_session.proofs.shown.push_shares.Goals as goal

pub push_share_of-requires : goal.push_share_of-requires
push_share_of-requires c =
    within_capacity c.args.router.now.router c.args.state.now c.as_slice-row-items.result.now c.loop-row.row-index _
    (subst (IsSound c.args.router.now.router) (sym c.requires) c.soundness.ensures.sound) c.as_slice-row-items.ensures.rows c.loop-row-test.true

-- The steps so far are counted and written.
use Rattle.std.proofs.Common.{arith}
use Rattle.rsvp_bodies.specs.Steps.{step_bytes as spelled}
use Rattle.journal_bytes.specs.Events.{step_bytes}
use Rattle.journal_bytes.proofs.Lengths.{one_more, one_longer, room_left}
use Rattle.journal_bytes.proofs.routes.put_route.Goals as goal

pub put_step-requires : goal.put_step-requires
put_step-requires c =
    let room = room_left spelled _ _ _ c.step-item.result c.as_slice-step-items.ensures.items c.as_slice-step-items.ensures.fits c.loop-step-test.true c.step-item.is in
    omega (arith, room)

pub overflow_add-count : goal.overflow_add-count
overflow_add-count c =
    let room = room_left spelled _ _ _ c.step-item.result c.as_slice-step-items.ensures.items c.as_slice-step-items.ensures.fits c.loop-step-test.true c.step-item.is in
    omega (arith, room, c.loop-step.invariant.few, c.in_ok-put_step.ensures.spelled)

pub loop-step-preserved : goal.loop-step-preserved
loop-step-preserved c =
    record {
      counted = omega arith;
      few = one_longer spelled _ _ c.step-item.result c.loop-step-test.true c.step-item.is c.loop-step.invariant.few c.in_ok-put_step.ensures.spelled;
      written = one_more step_bytes _ _ _ _ c.step-item.result c.loop-step-test.true c.step-item.is c.loop-step.invariant.written c.in_ok-put_step.ensures.ok;
    }

use Rattle.std.proofs.Common.{[], ◌≡◌}
use Rattle.rsvp_contents.proofs.Stepwise.{goes_on}
use Rattle.rsvp_contents.proofs.flow_reading.flows_of.Goals as goal

pub loop-before-preserved : goal.loop-before-preserved
loop-before-preserved c =
    let counts = rw c.in-Some-default.is-0 at c.counting.ensures in
    let first = rw c.in-Some.is at c.in_ok-descriptor.ensures in
    goes_on _ _ c.loop-before.rest.now c.in-Some-default.flowspec.now c.counting.result.1.now c.in-Some.after.now c.in-Some.descriptor c.loop-before.found c.push.new.self
    (λ e. let h = rw e at c.is_empty.ensures in let t = c.loop-before-test.true in cc)
    counts first c.in_ok-push.ensures.ok c.loop-before.invariant

-- One more object is written, where it is chosen.
use Rattle.rsvp_contents.specs.Written.{adspec}
use Rattle.rsvp_messages.proofs.Appended.{adspec-append, one_more_spelled, one_more_written}
use Rattle.rsvp_messages.proofs.parts_writing.put_adspec.Goals as goal

pub loop-object-preserved : goal.loop-object-preserved
loop-object-preserved c = (
  one_more_written adspec adspec-append c.args.out.now.items c.loop-object.out.items c.put_if_adspec.new.out.items c.args.passing.now c.loop-object.object-index c.object-item.result c.loop-object-test.true c.object-item.is c.loop-object.invariant.0 c.in_ok-put_if_adspec.ensures.ok,
  one_more_spelled adspec adspec-append c.args.passing.now c.loop-object.object-index c.object-item.result c.loop-object-test.true c.object-item.is c.loop-object.invariant.1 c.in_ok-put_if_adspec.ensures.spelled,
)

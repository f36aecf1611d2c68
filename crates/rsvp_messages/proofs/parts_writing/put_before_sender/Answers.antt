-- One more object is written, where it is chosen.
use Rattle.rsvp_contents.specs.Written.{before_sender}
use Rattle.rsvp_messages.proofs.Appended.{before_sender-append, one_more_spelled, one_more_written}
use Rattle.rsvp_messages.proofs.parts_writing.put_before_sender.Goals as goal

pub loop-object-preserved : goal.loop-object-preserved
loop-object-preserved c = (
  one_more_written before_sender before_sender-append c.args.out.now.items c.loop-object.out.items c.put_unless_adspec.new.out.items c.args.passing.now c.loop-object.object-index c.object-item.result c.loop-object-test.true c.object-item.is c.loop-object.invariant.0 c.in_ok-put_unless_adspec.ensures.ok,
  one_more_spelled before_sender before_sender-append c.args.passing.now c.loop-object.object-index c.object-item.result c.loop-object-test.true c.object-item.is c.loop-object.invariant.1 c.in_ok-put_unless_adspec.ensures.spelled,
)

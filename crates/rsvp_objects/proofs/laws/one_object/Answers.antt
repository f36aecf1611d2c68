-- Objects have a code.
use Rattle.rsvp_objects.proofs.ObjectCode.{one_object_lem}
use Rattle.rsvp_objects.proofs.laws.one_object.Goals as goal

pub returns : goal.returns
returns c = one_object_lem

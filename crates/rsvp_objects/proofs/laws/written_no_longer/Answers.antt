-- Object by object, the body that is written is no longer than the one that was read.
use Rattle.rsvp_objects.proofs.Sizes.{written_no_longer}
use Rattle.rsvp_objects.proofs.laws.written_no_longer.Goals as goal

pub returns : goal.returns
returns c = written_no_longer

-- What is written spells the object, as every object of the program is spelled.
use Rattle.std.proofs.lemmas.Result.{on_ok_weaker}
use Rattle.rsvp_objects.proofs.Spelled.{object_again}
use Rattle.rsvp_objects.proofs.writing.write_object.Goals as goal

pub returns-clause-again : goal.returns-clause-again
returns-clause-again c = rw c.or_undo.ensures.same (on_ok_weaker c.put_object-written.result (object_again c.args.object.now) c.put_object-written.ensures.fits)

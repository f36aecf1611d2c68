-- What is written spells the object, as every object of the program is spelled.
use Rattle.std.proofs.lemmas.Result.{on_ok_weaker}
use Rattle.rsvp_objects.specs.declared.object.Object.TheVariants as objects
use Rattle.rsvp_objects.proofs.Spelled.{object_again}
use Rattle.rsvp_objects.proofs.writing.write_session_attribute.Goals as goal

pub returns-clause-again : goal.returns-clause-again
returns-clause-again c = rw c.or_undo.ensures.same (on_ok_weaker c.put_attr-written.result (object_again (objects.SessionAttribute c.args.value.now)) c.put_attr-written.ensures.fits)

-- A body spells the object that keeps it.
use Rattle.std.proofs.lemmas.Result.{on_ok_weaker}
use Rattle.rsvp_objects.specs.declared.object.Object.TheVariants as objects
use Rattle.rsvp_objects.proofs.Spelled.{object_again}
use Rattle.rsvp_objects.proofs.writing.write_tspec.Goals as goal

pub returns-clause-again : goal.returns-clause-again
returns-clause-again c = on_ok_weaker c.or_undo.result (λ _. object_again (objects.SenderTspec c.args.value.now) c.as_slice.ensures.fits) c.or_undo.ensures.ok

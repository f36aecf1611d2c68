-- Content is a message exactly where it fits.
use Rattle.std.proofs.Common.{IsTrue, sym, subst}
use Rattle.rsvp_contents.proofs.Fitted.{message_fits, fits_message}
use Rattle.rsvp_contents.proofs.message.Message.fits.Goals as goal

pub returns-clause-message : goal.returns-clause-message
returns-clause-message c = (
  λ yes. fits_message c.args.content.now (subst IsTrue c.fits.ensures.fits yes),
  λ is. subst IsTrue (sym c.fits.ensures.fits) (message_fits c.args.content.now is),
)

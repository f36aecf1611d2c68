-- What fits counts whole, and what was read of a message fits.
use Rattle.rsvp_contents.proofs.Fitted.{message_fits, fits_message}
use Rattle.rsvp_contents.proofs.laws.what_fits_is_a_message.Goals as goal

pub returns : goal.returns
returns c = λ content. (message_fits content, fits_message content)

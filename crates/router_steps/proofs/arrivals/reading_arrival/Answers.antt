use Rattle.std.proofs.Common.{subst, sym}
use Rattle.rsvp_contents.specs.Spelling.{IsMessage}
use Rattle.router_steps.proofs.arrivals.reading_arrival.Goals as goal

pub message_arrival-requires-clause-message : goal.message_arrival-requires-clause-message
message_arrival-requires-clause-message g c = subst IsMessage (sym c.content.ensures.content) c.content.ensures.fits

pub unknown_arrival-requires-clause-message : goal.unknown_arrival-requires-clause-message
unknown_arrival-requires-clause-message g c = subst IsMessage (sym c.content-in-Unknown.ensures.content) c.content-in-Unknown.ensures.fits

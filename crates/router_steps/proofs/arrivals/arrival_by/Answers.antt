use Rattle.std.proofs.Common.{subst, sym}
use Rattle.rsvp_contents.specs.Spelling.{IsMessage}
use Rattle.router_steps.proofs.arrivals.arrival_by.Goals as goal

pub stack_arrival-requires-clause-message : goal.stack_arrival-requires-clause-message
stack_arrival-requires-clause-message g c = subst IsMessage (sym c.content.ensures.content) c.content.ensures.fits

pub unknown_stack_arrival-requires-clause-message : goal.unknown_stack_arrival-requires-clause-message
unknown_stack_arrival-requires-clause-message g c = subst IsMessage (sym c.content-in-Stack-Unknown.ensures.content) c.content-in-Stack-Unknown.ensures.fits

pub routed_arrival-requires-clause-message : goal.routed_arrival-requires-clause-message
routed_arrival-requires-clause-message g c = subst IsMessage (sym c.content-in-Routed-Whole.ensures.content) c.content-in-Routed-Whole.ensures.fits

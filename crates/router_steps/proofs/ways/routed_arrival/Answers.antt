use Rattle.std.proofs.Common.{subst}
use Rattle.rsvp_contents.specs.Spelling.{IsMessage}
use Rattle.router_steps.proofs.ways.routed_arrival.Goals as goal

pub returned_err-requires : goal.returned_err-requires
returned_err-requires g c = subst IsMessage c.in-PathErr.is c.requires.message

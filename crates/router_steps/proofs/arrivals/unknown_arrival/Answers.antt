use Rattle.std.proofs.Common.{subst}
use Rattle.rsvp_contents.specs.Spelling.{IsMessage}
use Rattle.router_steps.proofs.arrivals.unknown_arrival.Goals as goal

pub unknown_path_arrival-requires : goal.unknown_path_arrival-requires
unknown_path_arrival-requires g c = subst IsMessage c.in-Path.is c.requires.message

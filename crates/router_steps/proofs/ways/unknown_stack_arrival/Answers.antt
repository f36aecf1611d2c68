use Rattle.std.proofs.Common.{subst}
use Rattle.rsvp_contents.specs.Spelling.{IsMessage}
use Rattle.router_steps.proofs.ways.unknown_stack_arrival.Goals as goal

pub unknown_stack_path_arrival-requires : goal.unknown_stack_path_arrival-requires
unknown_stack_path_arrival-requires g c = subst IsMessage c.in-Path.is c.requires.message

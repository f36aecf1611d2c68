use Rattle.std.proofs.Common.{subst}
use Rattle.rsvp_contents.specs.Spelling.{IsMessage}
use Rattle.router_steps.proofs.arrivals.message_arrival.Goals as goal

pub labelled_path_arrival-requires-clause-message : goal.labelled_path_arrival-requires-clause-message
labelled_path_arrival-requires-clause-message g c = subst IsMessage c.in-Path.is c.requires.message

pub path_err_arrival-requires : goal.path_err_arrival-requires
path_err_arrival-requires g c = subst IsMessage c.in-PathErr.is c.requires.message

-- A message is one by its type.
use Rattle.std.proofs.Common.{subst}
use Rattle.rsvp_contents.specs.Spelling.{IsMessage}
use Rattle.rsvp_contents.proofs.message.Message.content.Goals as goal

pub returns-clause-fits : goal.returns-clause-fits
returns-clause-fits c = subst IsMessage c.self.view_is c.self.invariant

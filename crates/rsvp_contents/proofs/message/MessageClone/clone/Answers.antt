-- A copy of a message is one.
use Rattle.std.proofs.Common.{subst, sym}
use Rattle.rsvp_contents.specs.Spelling.{IsMessage}
use Rattle.rsvp_contents.proofs.message.MessageClone.clone.Goals as goal

pub invariant_of-result : goal.invariant_of-result
invariant_of-result c = subst IsMessage (sym c.in_ok-clone.ensures.cases) c.self.invariant

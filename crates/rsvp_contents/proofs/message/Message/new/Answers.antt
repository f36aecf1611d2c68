use Rattle.std.proofs.Common.{sym, subst}
use Rattle.rsvp_contents.specs.Spelling.{IsMessage}
use Rattle.rsvp_contents.proofs.message.Message.new.Goals as goal

pub invariant_of-result : goal.invariant_of-result
invariant_of-result c = subst IsMessage (sym c.in_ok-new.ensures.ok) c.requires

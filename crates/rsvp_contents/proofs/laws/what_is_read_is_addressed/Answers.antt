-- The objects of what is read stood among those that bytes spell.
use Rattle.rsvp_contents.proofs.Addressed.{what_is_read_is_addressed_lem}
use Rattle.rsvp_contents.proofs.laws.what_is_read_is_addressed.Goals as goal

pub returns : goal.returns
returns c = what_is_read_is_addressed_lem

-- A written header is good, and the objects stand behind it.
use Rattle.rsvp_contents.proofs.Spelled.{what_is_written_spells_lem}
use Rattle.rsvp_contents.proofs.laws.what_is_written_spells.Goals as goal

pub returns : goal.returns
returns c = what_is_written_spells_lem

-- What a message was read as holds one, by its type.
use Rattle.std.proofs.Common.{subst, sym}
use Rattle.rsvp_contents.specs.Picking.{content_in}
use Rattle.rsvp_contents.specs.Spelling.{IsMessage}
use Rattle.rsvp_contents.specs.declared.message.Reading.{Reading}
use Rattle.abstract_paths.proofs.laws.is_reading.Goals as goal

pub returns-in-Whole-clause-message : goal.returns-in-Whole-clause-message
returns-in-Whole-clause-message c = subst (λ (reading : Reading). IsMessage (content_in reading)) (sym c.in-Whole.is) c.content.ensures.fits

pub returns-in-Unknown-clause-message : goal.returns-in-Unknown-clause-message
returns-in-Unknown-clause-message c = subst (λ (reading : Reading). IsMessage (content_in reading)) (sym c.in-Unknown.is) c.content-in-Unknown.ensures.fits

-- What a content is made of stood among the objects that were read.
use Rattle.rsvp_contents.specs.declared.message.Reading.TheVariants.{Unknown, Whole}
use Rattle.rsvp_contents.proofs.ReadMessages.{what_is_read_is_a_message_lem}
use Rattle.rsvp_contents.proofs.laws.what_is_read_is_a_message.Goals as goal

pub returns-clause-whole : goal.returns-clause-whole
returns-clause-whole c = λ bytes content s. what_is_read_is_a_message_lem bytes (Whole content) s

pub returns-clause-unknown : goal.returns-clause-unknown
returns-clause-unknown c = λ bytes content class ctype s. what_is_read_is_a_message_lem bytes (Unknown content class ctype) s

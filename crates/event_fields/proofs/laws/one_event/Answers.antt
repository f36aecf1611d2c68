-- No fields tell two events, and no bytes spell two of them.
use Rattle.event_fields.specs.EventLaws.{one_unread}
use Rattle.event_fields.proofs.Fields.{one_event_of}
use Rattle.event_fields.proofs.laws.one_event.Goals as goal

pub returns : goal.returns
returns c = one_event_of one_unread

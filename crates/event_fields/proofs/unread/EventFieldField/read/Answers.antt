-- Where no kind is read, no event is spelled.
use Rattle.std.proofs.lemmas.Result.{err_from_is_err_and}
use Rattle.field_bytes.specs.CaseLaws.{choice_bytes}
use Rattle.field_bytes.specs.Making.{parts_unread}
use Rattle.event_fields.specs.EventLaws.{EventPartsFit, event_fields_by, event_spelled}
use Rattle.event_fields.specs.Fitting.{eight_tag}
use Rattle.event_fields.specs.Unread.{AnyUnread, unread_bytes, unread_parts}
use Rattle.event_fields.proofs.unread.EventFieldField.read.Goals as goal

pub returns-in_err-parts : goal.returns-in_err-parts
returns-in_err-parts c =
    let p = err_from_is_err_and c.from_residual.result c.from_residual.ensures.1 in
    rw (p.1, p.2) (parts_unread AnyUnread unread_parts unread_bytes EventPartsFit (choice_bytes 1 eight_tag event_fields_by) event_spelled c.args.bytes.now _ c.in_err-parts.ensures)

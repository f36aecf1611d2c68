-- Where no code is read, no command is spelled.
use Rattle.std.proofs.lemmas.Result.{err_from_is_err_and}
use Rattle.field_bytes.specs.CaseLaws.{choice_bytes}
use Rattle.field_bytes.specs.Making.{parts_unread}
use Rattle.event_fields.specs.Commands.{AnyCommand, command_bytes, command_parts}
use Rattle.event_fields.specs.Fitting.{CommandPartsFit, eight_tag}
use Rattle.event_fields.specs.Laws.{command_fields_by, command_spelled}
use Rattle.event_fields.proofs.commands.CommandFieldField.read.Goals as goal

pub returns-in_err-parts : goal.returns-in_err-parts
returns-in_err-parts c =
    let p = err_from_is_err_and c.from_residual.result c.from_residual.ensures.1 in
    rw (p.1, p.2) (parts_unread AnyCommand command_parts command_bytes CommandPartsFit (choice_bytes 1 eight_tag command_fields_by) command_spelled c.args.bytes.now _ c.in_err-parts.ensures)

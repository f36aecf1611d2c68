use Rattle.std.proofs.Common.{sym, ◌∙◌, string_bytes}
use Rattle.std.proofs.lemmas.Result.{on_ok_weaker}
use Rattle.event_fields.proofs.Fields.{some_left}
use Rattle.journal_lines.proofs.Entering.{none_by, none_whole, told_event, told_none, whole_by}
use Rattle.journal_lines.proofs.entries.push_event.Goals as goal

pub returns-then-is_empty : goal.returns-then-is_empty
returns-then-is_empty c =
    let spells = whole_by c.args.bytes.now c.in-Ok.rest.now c.in-Ok.event c.in-Ok.ensures.0 c.in-Ok.ensures.1 (sym c.is_empty.ensures ∙ c.if-is_empty.true) in
    on_ok_weaker c.push_told.result (λ told. told_event c.args.router.now c.args.bytes.now (string_bytes c.args.text.now) (string_bytes c.push_told.new.text) c.in-Ok.event spells told) c.push_told.ensures

pub returns-in-Ok : goal.returns-in-Ok
returns-in-Ok c =
    let none = none_whole c.args.bytes.now c.in-Ok.rest.now c.in-Ok.event c.in-Ok.ensures.1 c.in-Ok.ensures.0 (some_left c.in-Ok.rest.now (sym c.is_empty.ensures ∙ c.if-is_empty.false)) in
    on_ok_weaker c.push_no_event.result (λ told. told_none c.args.router.now c.args.bytes.now (string_bytes c.args.text.now) (string_bytes c.push_no_event.new.text) none told) c.push_no_event.ensures

pub returns-in-Err-Format : goal.returns-in-Err-Format
returns-in-Err-Format c =
    let none = none_by c.args.bytes.now c.in-Err-Format.field-0 c.in-Err-Format.field-0-is c.in-Err-Format.ensures in
    on_ok_weaker c.push_no_event-in-Err-Format.result (λ told. told_none c.args.router.now c.args.bytes.now (string_bytes c.args.text.now) (string_bytes c.push_no_event-in-Err-Format.new.text) none told)
    c.push_no_event-in-Err-Format.ensures

-- Where its parts aren't read, none is spelled.
use Rattle.std.proofs.Common.{refl}
use Rattle.std.proofs.lemmas.Result.{err_from_is_err_and}
use Rattle.field_bytes.specs.Making.{parts_unread}
use Rattle.fact_fields.specs.Fitting.{IsAny}
use Rattle.field_bytes.specs.CaseLaws.{choice_bytes}
use Rattle.journal_files.specs.FileLaws.{ReplyPartsFit, reply_fields, reply_spelled, reply_tag}
use Rattle.journal_files.specs.Replies.{reply_bytes, reply_parts}
use Rattle.journal_files.proofs.Parts.{of_parts}
use Rattle.journal_files.proofs.replies.ReplyFieldField.read.Goals as goal

pub returns-in_err-parts : goal.returns-in_err-parts
returns-in_err-parts c =
    let p = err_from_is_err_and c.from_residual.result c.from_residual.ensures.1 in
    rw (p.1, p.2) (parts_unread IsAny reply_parts reply_bytes ReplyPartsFit (choice_bytes 0 reply_tag reply_fields) reply_spelled c.args.bytes.now _ c.in_err-parts.ensures)

pub returns : goal.returns
returns c = of_parts reply_parts reply_bytes ReplyPartsFit (choice_bytes 0 reply_tag reply_fields) reply_spelled c.args.bytes.now c.in_ok-parts.rest.now c.in_ok-parts.parts c.reply_of.result c.in_ok-parts.ensures.0 c.in_ok-parts.ensures.1 c.reply_of.ensures

-- Where its parts aren't read, nothing that is kept alive is spelled.
use Rattle.std.proofs.lemmas.Result.{err_from_is_err_and}
use Rattle.field_bytes.specs.Making.{parts_unread}
use Rattle.fact_fields.specs.FieldLaws.{RefreshedPartsFit, refreshed_part_bytes, refreshed_spelled}
use Rattle.fact_fields.specs.Fitting.{IsAny}
use Rattle.fact_fields.specs.Sent.{refreshed_bytes, refreshed_parts}
use Rattle.fact_fields.proofs.sent.RefreshedFieldField.read.Goals as goal

pub returns-in_err-parts : goal.returns-in_err-parts
returns-in_err-parts c =
    let p = err_from_is_err_and c.from_residual.result c.from_residual.ensures.1 in
    rw (p.1, p.2) (parts_unread IsAny refreshed_parts refreshed_bytes RefreshedPartsFit refreshed_part_bytes refreshed_spelled c.args.bytes.now _ c.in_err-parts.ensures)

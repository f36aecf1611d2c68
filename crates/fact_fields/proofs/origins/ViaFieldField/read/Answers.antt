-- Where its parts aren't read, none is spelled.
use Rattle.std.proofs.lemmas.Result.{err_from_is_err_and}
use Rattle.field_bytes.specs.Making.{parts_unread}
use Rattle.fact_fields.specs.Fitting.{IsAny}
use Rattle.fact_fields.specs.Laws.{ViaPartsFit, via_part_bytes, via_spelled}
use Rattle.fact_fields.specs.Origins.{via_bytes, via_parts}
use Rattle.fact_fields.proofs.origins.ViaFieldField.read.Goals as goal

pub returns-in_err-parts : goal.returns-in_err-parts
returns-in_err-parts c =
    let p = err_from_is_err_and c.from_residual.result c.from_residual.ensures.1 in
    rw (p.1, p.2) (parts_unread IsAny via_parts via_bytes ViaPartsFit via_part_bytes via_spelled c.args.bytes.now _ c.in_err-parts.ensures)

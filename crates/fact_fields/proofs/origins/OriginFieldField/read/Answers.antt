-- Where its parts aren't read, none is spelled.
use Rattle.std.proofs.Common.{refl}
use Rattle.std.proofs.lemmas.Result.{err_from_is_err_and}
use Rattle.field_bytes.specs.Making.{parts_unread}
use Rattle.fact_fields.specs.Fitting.{IsAny}
use Rattle.fact_fields.specs.Laws.{OriginPartsFit, origin_part_bytes}
use Rattle.fact_fields.specs.Origins.{origin_bytes, origin_parts}
use Rattle.fact_fields.proofs.origins.OriginFieldField.read.Goals as goal

pub returns-in_err-parts : goal.returns-in_err-parts
returns-in_err-parts c =
    let p = err_from_is_err_and c.from_residual.result c.from_residual.ensures.1 in
    rw (p.1, p.2) (parts_unread IsAny origin_parts origin_bytes OriginPartsFit origin_part_bytes (λ x. refl) c.args.bytes.now _ c.in_err-parts.ensures)

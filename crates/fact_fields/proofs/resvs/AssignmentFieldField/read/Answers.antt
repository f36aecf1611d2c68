-- Where its parts aren't read, no promise is spelled.
use Rattle.std.proofs.Common.{refl}
use Rattle.std.proofs.lemmas.Result.{err_from_is_err_and}
use Rattle.field_bytes.specs.Making.{parts_unread}
use Rattle.field_bytes.specs.PairLaws.{PairFits, pair_bytes}
use Rattle.event_fields.specs.Fitting.{IsLong, IsShort}
use Rattle.event_fields.specs.Laws.{long_bytes, short_bytes}
use Rattle.fact_fields.specs.Fitting.{IsAny}
use Rattle.fact_fields.specs.Resvs.{assignment_bytes, assignment_parts}
use Rattle.fact_fields.proofs.resvs.AssignmentFieldField.read.Goals as goal

pub returns-in_err-parts : goal.returns-in_err-parts
returns-in_err-parts c =
    let p = err_from_is_err_and c.from_residual.result c.from_residual.ensures.1 in
    rw (p.1, p.2) (parts_unread IsAny assignment_parts assignment_bytes (PairFits IsShort IsLong) (pair_bytes short_bytes long_bytes) (λ x. refl) c.args.bytes.now _ c.in_err-parts.ensures)

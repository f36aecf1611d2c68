-- Where no byte is read, no role is spelled.
use Rattle.std.proofs.Common.{refl}
use Rattle.std.proofs.lemmas.Result.{err_from_is_err_and}
use Rattle.field_bytes.specs.Making.{parts_unread}
use Rattle.event_fields.specs.Fitting.{IsByte}
use Rattle.event_fields.specs.Laws.{byte_bytes}
use Rattle.fact_fields.specs.Fitting.{IsAny}
use Rattle.fact_fields.specs.Paths.{role_bytes, role_number}
use Rattle.fact_fields.proofs.paths.RoleFieldField.read.Goals as goal

pub returns-in_err-number : goal.returns-in_err-number
returns-in_err-number c =
    let p = err_from_is_err_and c.from_residual.result c.from_residual.ensures.1 in
    rw (p.1, p.2) (parts_unread IsAny role_number role_bytes IsByte byte_bytes (λ x. refl) c.args.bytes.now _ c.in_err-number.ensures)

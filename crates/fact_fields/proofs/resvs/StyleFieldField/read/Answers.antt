-- Where no byte is read, or it is no style's, none is spelled.
use Rattle.std.proofs.Common.{refl}
use Rattle.std.proofs.lemmas.Result.{err_from_is_err_and}
use Rattle.field_bytes.specs.Making.{not_made, parts_unread}
use Rattle.field_bytes.specs.NumberLaws.{one_byte}
use Rattle.lsr_facts.specs.Reservations.{style_bits}
use Rattle.event_fields.specs.Fitting.{IsByte}
use Rattle.event_fields.specs.Laws.{byte_bytes}
use Rattle.fact_fields.specs.Fitting.{IsAny}
use Rattle.fact_fields.specs.Resvs.{style_bytes}
use Rattle.fact_fields.proofs.resvs.StyleFieldField.read.Goals as goal

pub returns-in_err-bits : goal.returns-in_err-bits
returns-in_err-bits c =
    let p = err_from_is_err_and c.from_residual.result c.from_residual.ensures.1 in
    rw (p.1, p.2) (parts_unread IsAny style_bits style_bytes IsByte byte_bytes (λ x. refl) c.args.bytes.now _ c.in_err-bits.ensures)

pub returns-in_err-style_of : goal.returns-in_err-style_of
returns-in_err-style_of c =
    let p = err_from_is_err_and c.from_residual-in_err-style_of.result c.from_residual-in_err-style_of.ensures.1 in
    rw (p.1, p.2) (not_made IsAny style_bits style_bytes IsByte byte_bytes (λ x. refl) one_byte
    c.args.bytes.now c.in_ok-bits.rest.now c.in_ok-bits.bits _ c.in_ok-bits.ensures.0 c.in_ok-bits.ensures.1 c.in_err-style_of.ensures)

-- Where its parts aren't read, nothing ends a reservation.
use Rattle.std.proofs.Common.{refl}
use Rattle.std.proofs.lemmas.Result.{err_from_is_err_and}
use Rattle.field_bytes.specs.Making.{parts_unread}
use Rattle.field_bytes.specs.OptionLaws.{OptionFits, option_bytes}
use Rattle.field_bytes.specs.PairLaws.{PairFits, pair_bytes}
use Rattle.body_fields.specs.Passing.{passing_bytes}
use Rattle.body_fields.specs.Routes.{record_bytes}
use Rattle.event_fields.specs.Fitting.{IsLong}
use Rattle.event_fields.specs.Laws.{long_bytes}
use Rattle.fact_fields.specs.Fitting.{IsAny, PassingFits, RecordFits}
use Rattle.fact_fields.specs.Resvs.{end_bytes, end_parts}
use Rattle.fact_fields.proofs.resvs.ResvEndFieldField.read.Goals as goal

pub returns-in_err-parts : goal.returns-in_err-parts
returns-in_err-parts c =
    let p = err_from_is_err_and c.from_residual.result c.from_residual.ensures.1 in
    rw (p.1, p.2) (parts_unread IsAny end_parts end_bytes (PairFits (OptionFits RecordFits) (PairFits PassingFits IsLong)) (pair_bytes (option_bytes record_bytes) (pair_bytes passing_bytes long_bytes)) (λ x. refl) c.args.bytes.now _ c.in_err-parts.ensures)

-- Where its rows aren't read, or nothing was sent of them, nothing is spelled.
use Rattle.std.proofs.Common.{refl}
use Rattle.std.proofs.lemmas.Result.{err_from_is_err_and}
use Rattle.field_bytes.specs.Making.{not_made, parts_unread}
use Rattle.field_bytes.specs.ListLaws.{one_list}
use Rattle.field_bytes.specs.NumberLaws.{one_long}
use Rattle.field_bytes.specs.PairLaws.{PairFits, one_pair}
use Rattle.field_bytes.specs.Spelling.{ListFits, list_bytes}
use Rattle.event_fields.specs.Fitting.{IsLong}
use Rattle.event_fields.specs.Laws.{long_bytes}
use Rattle.fact_fields.specs.FieldLaws.{one_refreshed}
use Rattle.fact_fields.specs.Fitting.{RefreshedFits}
use Rattle.fact_fields.specs.Sent.{IsSent, refreshed_bytes, sent_bytes, sent_row_bytes, sent_rows}
use Rattle.fact_fields.proofs.sent.SentFieldField.read.Goals as goal

pub returns-in_err-rows : goal.returns-in_err-rows
returns-in_err-rows c =
    let p = err_from_is_err_and c.from_residual.result c.from_residual.ensures.1 in
    rw (p.1, p.2) (parts_unread IsSent sent_rows sent_bytes (ListFits (PairFits RefreshedFits IsLong)) (list_bytes sent_row_bytes) (λ x. refl) c.args.bytes.now _ c.in_err-rows.ensures)

pub returns-in_err-sent_of : goal.returns-in_err-sent_of
returns-in_err-sent_of c =
    let p = err_from_is_err_and c.from_residual-in_err-sent_of.result c.from_residual-in_err-sent_of.ensures.1 in
    rw (p.1, p.2) (not_made IsSent sent_rows sent_bytes (ListFits (PairFits RefreshedFits IsLong)) (list_bytes sent_row_bytes) (λ x. refl) (one_list (PairFits RefreshedFits IsLong) sent_row_bytes (one_pair RefreshedFits IsLong refreshed_bytes long_bytes one_refreshed one_long))
    c.args.bytes.now c.in_ok-rows.rest.now c.in_ok-rows.rows _ c.in_ok-rows.ensures.0 c.in_ok-rows.ensures.1 c.in_err-sent_of.ensures)

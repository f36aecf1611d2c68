-- The event of the fields at the head of the bytes, where nothing stands behind them.
use Rattle.std.proofs.Common.{◌≡◌, ◌<◌, ◌++◌, [], ℕ, List, length, ap, sym, ◌∙◌, append-nil}
use Rattle.std.proofs.lemmas.Result.{err_from_is_err_and}
use Rattle.event_fields.specs.EventLaws.{one_unread}
use Rattle.event_fields.specs.Unread.{unread_bytes}
use Rattle.event_fields.proofs.Fields.{bytes_behind, fields_unread, none_left, reads_event, some_left}
use Rattle.event_fields.proofs.reading.read_event.Goals as goal

pub returns-in_err-unread : goal.returns-in_err-unread
returns-in_err-unread c =
    let p = err_from_is_err_and c.from_residual.result c.from_residual.ensures.1 in
    rw (p.1, p.2) (fields_unread c.args.bytes.now _ c.in_err-unread.ensures)

pub returns-then-not-is_empty : goal.returns-then-not-is_empty
returns-then-not-is_empty c =
    let some : 0 < length c.in_ok-unread.rest.now = some_left c.in_ok-unread.rest.now (sym c.is_empty.ensures ∙ c.if-not-is_empty.true) in
    bytes_behind c.args.bytes.now c.in_ok-unread.rest.now c.in_ok-unread.unread one_unread c.in_ok-unread.ensures.1 c.in_ok-unread.ensures.0 some

pub returns : goal.returns
returns c =
    let none : c.in_ok-unread.rest.now ≡ [] = none_left c.in_ok-unread.rest.now (sym c.is_empty.ensures ∙ c.if-not-is_empty.false) in
    reads_event c.args.bytes.now c.in_ok-unread.unread one_unread c.in_ok-unread.ensures.1
    (c.in_ok-unread.ensures.0 ∙ (ap (λ (v : List ℕ). unread_bytes c.in_ok-unread.unread ++ v) none ∙ append-nil (unread_bytes c.in_ok-unread.unread)))
    c.event_of.result c.event_of.ensures

-- The value at the head of the bytes, where nothing follows it.
use Rattle.std.proofs.Common.{sym, ◌∙◌}
use Rattle.std.proofs.lemmas.Result.{err_from_is_err_and}
use Rattle.field_bytes.proofs.Wholes.{whole_before, whole_read, whole_unread}
use Rattle.field_bytes.proofs.whole.read_whole.Goals as goal

pub returns-in_err-value : goal.returns-in_err-value
returns-in_err-value g c =
    let p = err_from_is_err_and c.from_residual.result c.from_residual.ensures.1 in
    rw (p.1, p.2) (whole_unread g.F.Field.Fits g.F.Field.spelling c.args.bytes.now _ c.in_err-value.ensures)

pub returns-then-not-is_empty : goal.returns-then-not-is_empty
returns-then-not-is_empty g c =
    whole_before g.F.Field.Fits g.F.Field.spelling g.met.F.Field.one c.args.bytes.now c.in_ok-value.rest.now c.in_ok-value.value c.in_ok-value.ensures.1 c.in_ok-value.ensures.0 (sym c.is_empty.ensures ∙ c.if-not-is_empty.true)

pub returns : goal.returns
returns g c =
    whole_read g.F.Field.Fits g.F.Field.spelling g.met.F.Field.one c.args.bytes.now c.in_ok-value.rest.now c.in_ok-value.value c.in_ok-value.ensures.1 c.in_ok-value.ensures.0 (sym c.is_empty.ensures ∙ c.if-not-is_empty.false)

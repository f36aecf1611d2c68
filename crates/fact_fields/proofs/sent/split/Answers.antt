-- A row that can't follow those so far ends it.
use Rattle.std.proofs.lemmas.Result.{err_from_is_err_and}
use Rattle.fact_fields.proofs.Splitting.{split_ends}
use Rattle.fact_fields.proofs.sent.split.Goals as goal

pub returns-in_err-add_row : goal.returns-in_err-add_row
returns-in_err-add_row c =
    let p = err_from_is_err_and c.from_residual.result c.from_residual.ensures.1 in
    rw (p.1, p.2) (split_ends c.loop-row.row-index c.args.rows.now _ c.loop-row.paths.items c.loop-row.resvs.items c.in_err-add_row.field-0.0 c.loop-row-test.true c.loop-row.invariant c.in_err-add_row.ensures.err)

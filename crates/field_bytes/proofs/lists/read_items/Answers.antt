use Rattle.std.proofs.Common.{◌<◌, length, arith}
use Rattle.std.proofs.lemmas.Result.{err_from_is_err_and}
use Rattle.field_bytes.specs.ListLaws.{no_more}
use Rattle.field_bytes.proofs.lists.read_items.Goals as goal

pub returns-in_err-item : goal.returns-in_err-item
returns-in_err-item g c =
    let p = err_from_is_err_and c.from_residual.result c.from_residual.ensures.1 in
    let n : length c.loop-place.items.items < c.args.count = omega (arith, c.loop-place.invariant.0) in
    rw (p.1, p.2) (no_more g.A.Field.Fits g.A.Field.spelling g.met.A.Field.one c.args.count c.args.bytes.now c.loop-place.items.items c.loop-place.rest.now _ n c.loop-place.invariant.1 c.loop-place.invariant.2 c.in_err-item.ensures)

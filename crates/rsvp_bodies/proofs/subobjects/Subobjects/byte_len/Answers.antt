use Rattle.std.proofs.Common.{◌≡◌, List, length, ap, arith}
use Rattle.std.specs.List.{flat_map}
use Rattle.rsvp_bodies.proofs.Counts.{length-one_more}
use Rattle.rsvp_bodies.proofs.subobjects.Subobjects.byte_len.Goals as goal

pub overflow_add-len : goal.overflow_add-len
overflow_add-len g c =
    let within = length-one_more g.T.Subobject.spelling c.deref-item-items.result.now c.loop-item.item-index c.item-item.result c.loop-item-test.true c.item-item.is in
    let same : length (flat_map g.T.Subobject.spelling c.deref-item-items.result.now) ≡ length (flat_map g.T.Subobject.spelling c.self.inside.items.items) = ap (λ (v : List g.row.T.Denot). length (flat_map g.T.Subobject.spelling v)) c.deref-item-items.ensures.value in
    omega (arith, within, same, c.self.invariant, c.loop-item.invariant, c.byte_len-len.ensures)

use Rattle.std.proofs.Common.{arith}
use Rattle.rsvp_bodies.proofs.Counts.{length-one_more}
use Rattle.rsvp_bodies.proofs.subobjects.Subobjects.fits.Goals as goal

pub returns-then-len-room : goal.returns-then-len-room
returns-then-len-room g c =
    let within = length-one_more g.T.Subobject.spelling c.args.items.now c.loop-item.item-index c.item-item.result c.loop-item-test.true c.item-item.is in
    (λ t. absurd cc, λ all_fit. absurd (omega (arith, within, all_fit, c.loop-item.invariant, c.byte_len-len.ensures, c.if-len-room.true)))

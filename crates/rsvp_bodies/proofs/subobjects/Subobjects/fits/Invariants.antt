use Rattle.std.proofs.Common.{◌≡◌, ◌+◌, length, take}
use Rattle.std.specs.List.{flat_map}
use Rattle.rsvp_bodies.proofs.subobjects.Subobjects.fits.Given as goal

-- the room left and the bytes of the subobjects so far are the room of a body
abbrev pub invariant-loop-item : goal.invariant-loop-item
invariant-loop-item g l =
    l.room + length (flat_map g.T.Subobject.spelling (take l.item-index l.items)) ≡ 65528

use Rattle.std.proofs.Common.{◌≡◌, length, take}
use Rattle.std.specs.List.{flat_map}
use Rattle.rsvp_bodies.proofs.subobjects.Subobjects.byte_len.Given as goal

-- the bytes of the subobjects so far are counted
abbrev pub invariant-loop-item : goal.invariant-loop-item
invariant-loop-item g l = l.len ≡ length (flat_map g.T.Subobject.spelling (take l.item-index l.item-items))

use Rattle.std.proofs.Common.{◌≡◌, ◌++◌, length, take}
use Rattle.std.specs.List.{flat_map, All}
use Rattle.rsvp_bodies.proofs.subobjects.Subobjects.write.Given as goal

-- the subobjects so far are written, and what they are written as spells them
abbrev pub invariant-loop-item : goal.invariant-loop-item
invariant-loop-item g l =
    (l.start ≡ length l.initial.out.items)
    × (l.out.items ≡ l.initial.out.items ++ flat_map g.T.Subobject.spelling (take l.item-index l.item-items))
    × All (λ x. g.T.Subobject.Spells (g.T.Subobject.spelling x) x) (take l.item-index l.item-items)

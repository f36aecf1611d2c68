use Rattle.std.proofs.Common.{take}
use Rattle.timed_rows.specs.Gathered.{CoverSlots}
use Rattle.timed_rows.proofs.gathered.places_of.Given as goal

-- the places of the slots so far
abbrev pub invariant-loop-slot : goal.invariant-loop-slot
invariant-loop-slot g l = CoverSlots l.by_key (take l.slot-index l.named) l.places.items

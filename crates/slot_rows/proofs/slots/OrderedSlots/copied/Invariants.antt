use Rattle.std.proofs.Common.{◌≡◌, take}
use Rattle.std.specs.List.{filter_map}
use Rattle.slab.specs.Slab.{get}
use Rattle.slot_rows.proofs.slots.OrderedSlots.copied.Given as goal

-- the rows of so many slots
abbrev pub invariant-loop-slot : goal.invariant-loop-slot
invariant-loop-slot g l = l.rows.items ≡ filter_map (get l.self.slots) (take l.slot-index l.self.by_key.items)

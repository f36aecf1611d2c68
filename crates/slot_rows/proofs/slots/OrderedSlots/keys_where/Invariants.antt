use Rattle.std.proofs.Common.{◌≡◌, take}
use Rattle.std.specs.List.{filter, filter_map}
use Rattle.slab.specs.Slab.{get}
use Rattle.sorted_rows.specs.Rows.{keys_of}
use Rattle.slot_rows.proofs.slots.OrderedSlots.keys_where.Given as goal

-- the keys of so many slots
abbrev pub invariant-loop-slot : goal.invariant-loop-slot
invariant-loop-slot g l = l.keys.items ≡ keys_of (filter (g.T.RowTest.passes l.test) (filter_map (get l.self.slots) (take l.slot-index l.self.by_key.items)))

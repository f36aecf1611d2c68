use Rattle.std.proofs.Common.{◌≡◌, take}
use Rattle.std.specs.List.{filter_map}
use Rattle.std.specs.Prelude.{vec_capacity}
use Rattle.slab.specs.Slab.{get}
use Rattle.slot_rows.specs.Marks.{IsMarked}
use Rattle.slot_rows.specs.Slots.{IsSlotted, rows_of}
use Rattle.slot_rows.proofs.slots.OrderedSlots.try_copy.Given as goal

-- the copy has the rows of so many slots
abbrev pub invariant-loop-slot : goal.invariant-loop-slot
invariant-loop-slot g l = record {
  slotted : IsSlotted g.K.Ord.cmp g.row.MOST l.copy.slots l.copy.by_key.items (vec_capacity l.copy.by_key);
  marked : IsMarked g.N.Numbering.number l.copy.marks l.copy.slots;
  rows : rows_of l.copy.slots l.copy.by_key.items ≡ filter_map (get l.self.slots) (take l.slot-index l.self.by_key.items);
}

use Rattle.std.proofs.Common.{◌≡◌, ◌≤◌, ◌++◌, drop, length, take}
use Rattle.std.specs.Prelude.{vec_capacity}
use Rattle.slot_rows.specs.Marks.{IsMarked}
use Rattle.slot_rows.specs.Slots.{IsSlotted, rows_of}
use Rattle.slot_rows.proofs.Swept.{swept}
use Rattle.slot_rows.proofs.slots.OrderedSlots.sweep.Given as goal

-- so many rows are as they were, and the others are swept
abbrev pub invariant-loop-left : goal.invariant-loop-left
invariant-loop-left g l =
    let all = rows_of l.fn.self.slots l.fn.self.by_key.items in
    record {
      slotted : IsSlotted g.K.Ord.cmp g.row.MOST l.self.slots l.self.by_key.items (vec_capacity l.self.by_key);
      marked : IsMarked g.N.Numbering.number l.self.marks l.self.slots;
      within : l.left ≤ length all;
      rows : rows_of l.self.slots l.self.by_key.items ≡ take l.left all ++ swept (g.S.Sweep.stays l.sweep) (λ row. (row.0, g.S.Sweep.left l.sweep row.1)) (drop l.left all);
      capacity : l.self.slots.capacity ≡ l.fn.self.slots.capacity;
    }

abbrev pub decreases-loop-left : goal.decreases-loop-left
decreases-loop-left g l = l.left

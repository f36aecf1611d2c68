use Rattle.std.proofs.Common.{◌<◌, ◌++◌, [], get_or, length, sym, ap, ◌∙◌, arith}
use Rattle.std.specs.List.{cons_option, filter}
use Rattle.slab.specs.Slab.{get}
use Rattle.sorted_rows.specs.Rows.{keys_of}
use Rattle.slot_rows.proofs.SlotReads.{keys_more}
use Rattle.slot_rows.proofs.slots.OrderedSlots.keys_where.Goals as goal

pub loop-slot-preserved : goal.loop-slot-preserved
loop-slot-preserved g c =
    let s = c.args.self.now in
    let order = s.by_key.items in
    let i = c.loop-slot.slot-index in
    let passes = g.T.RowTest.passes c.args.test.now in
    let within : i < length order = omega arith in
    let named = rw c.from.ensures at c.in_ok-push_passing.ensures in
    let pushed = rw c.deref-slot-items.ensures.value at named in
    pushed
    ∙ ap (λ keys. keys ++ keys_of (filter passes (cons_option (get s.slots (get_or order i 0)) []))) c.loop-slot.invariant
    ∙ sym (keys_more passes (get s.slots) order i 0 within)

use Rattle.std.proofs.Common.{◌<◌, ◌≤◌, ◌++◌, [], get_or, length, sym, ap, ◌∙◌, arith}
use Rattle.std.specs.List.{cons_option, filter_map}
use Rattle.std.proofs.lemmas.List.{take_all}
use Rattle.slab.specs.Slab.{get}
use Rattle.slot_rows.proofs.SlotReads.{rows_more}
use Rattle.slot_rows.proofs.slots.OrderedSlots.copied.Goals as goal

pub loop-slot-preserved : goal.loop-slot-preserved
loop-slot-preserved g c =
    let s = c.args.self.now in
    let order = s.by_key.items in
    let i = c.loop-slot.slot-index in
    let within : i < length order = omega arith in
    let named = rw c.from.ensures at c.in_ok-push_copy.ensures in
    let pushed = rw c.deref-slot-items.ensures.value at named in
    pushed
    ∙ ap (λ rows. rows ++ cons_option (get s.slots (get_or order i 0)) []) c.loop-slot.invariant
    ∙ sym (rows_more (get s.slots) order i 0 within)

pub returns : goal.returns
returns g c =
    let s = c.args.self.now in
    let past : length s.by_key.items ≤ c.loop-slot.slot-index = omega arith in
    c.loop-slot.invariant ∙ ap (filter_map (get s.slots)) (take_all c.loop-slot.slot-index s.by_key.items past)

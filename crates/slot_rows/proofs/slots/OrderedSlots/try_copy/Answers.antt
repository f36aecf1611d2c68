use Rattle.std.proofs.Common.{◌<◌, ◌≤◌, ◌+◌, ◌++◌, T, List, [], get_or, length, take, sym, subst, ap, ◌∙◌, arith}
use Rattle.std.specs.FinMap.Entries.{is_sorted}
use Rattle.std.specs.List.{cons_option, filter_map}
use Rattle.std.proofs.lemmas.List.{length-take-le, take_all}
use Rattle.slab.specs.Slab.{get}
use Rattle.slot_rows.specs.Slots.{rows_of}
use Rattle.slot_rows.proofs.Filled.{length_read}
use Rattle.slot_rows.proofs.SlotReads.{length_rows, rows_more, sorted_front}
use Rattle.slot_rows.proofs.slots.OrderedSlots.try_copy.Goals as goal

pub push_copy_of-requires : goal.push_copy_of-requires
push_copy_of-requires g c =
    let s = c.args.self.now in
    let order = s.by_key.items in
    let copy = c.loop-slot.copy in
    let i = c.loop-slot.slot-index in
    let within : i < length order = omega arith in
    let long = length_read (get copy.slots) copy.by_key.items (rows_of copy.slots copy.by_key.items) c.loop-slot.invariant.slotted.filled in
    let more = ap (λ rows. rows ++ cons_option (get s.slots (get_or order i 0)) []) c.loop-slot.invariant.rows ∙ sym (rows_more (get s.slots) order i 0 within) in
    let room : length copy.by_key.items < g.row.MOST = omega (arith, long, ap length c.loop-slot.invariant.rows, length_rows (get s.slots) (take i order), length-take-le i order, within, c.requires.few) in
    let sorted = subst (λ (rows : List (g.row.K.Denot × g.row.V.Denot)). T (is_sorted g.K.Ord.cmp rows)) (sym more) (sorted_front g.K.Ord.cmp (get s.slots) order (i + 1) c.requires.in_order) in
    (omega arith, (c.loop-slot.invariant.slotted, (c.loop-slot.invariant.marked, (room, rw c.from.ensures (rw c.deref-slot-items.ensures.value sorted)))))

pub loop-slot-preserved : goal.loop-slot-preserved
loop-slot-preserved g c =
    let s = c.args.self.now in
    let order = s.by_key.items in
    let i = c.loop-slot.slot-index in
    let within : i < length order = omega arith in
    let named = rw c.from.ensures at c.in_ok-push_copy_of.ensures.rows in
    let pushed = rw c.deref-slot-items.ensures.value at named in
    record {
      slotted = c.in_ok-push_copy_of.ensures.slotted;
      marked = c.in_ok-push_copy_of.ensures.marked;
      rows = pushed ∙ ap (λ rows. rows ++ cons_option (get s.slots (get_or order i 0)) []) c.loop-slot.invariant.rows ∙ sym (rows_more (get s.slots) order i 0 within);
    }

pub returns-clause-rows : goal.returns-clause-rows
returns-clause-rows g c =
    let s = c.args.self.now in
    let past : length s.by_key.items ≤ c.loop-slot.slot-index = omega arith in
    c.loop-slot.invariant.rows ∙ ap (filter_map (get s.slots)) (take_all c.loop-slot.slot-index s.by_key.items past)

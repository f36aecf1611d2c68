use Rattle.std.proofs.Common.{◌<◌, ◌≤◌, length, ap, ◌∙◌, arith}
use Rattle.slab.specs.Slab.{get}
use Rattle.slot_rows.specs.Slots.{rows_of}
use Rattle.slot_rows.proofs.Filled.{row_past, row_within}
use Rattle.slot_rows.proofs.slots.OrderedSlots.row.Goals as goal

pub returns-then-place-len : goal.returns-then-place-len
returns-then-place-len g c =
    let s = c.args.self.now in
    let within : c.args.place < length s.by_key.items = omega arith in
    c.get.ensures ∙ ap (get s.slots) (c.from.ensures ∙ c.index.ensures) ∙ row_within (get s.slots) s.by_key.items (rows_of s.slots s.by_key.items) c.requires c.args.place c.index.result.now within

pub returns-else-place-len : goal.returns-else-place-len
returns-else-place-len g c =
    let s = c.args.self.now in
    let past : length s.by_key.items ≤ c.args.place = omega arith in
    row_past (get s.slots) s.by_key.items (rows_of s.slots s.by_key.items) c.requires c.args.place past

use Rattle.std.proofs.Common.{◌≡◌, get_or, refl, sym, subst}
use Rattle.std.specs.Option.{IsSome}
use Rattle.std.specs.Prelude.{vec_capacity}
use Rattle.slot_rows.proofs.Changes.{gone, has_row}
use Rattle.slot_rows.proofs.Marked.{marked_gone}
use Rattle.slot_rows.specs.Slots.{rows_of}
use Rattle.sorted_rows.specs.RowsLaws.{where_key-absent}
use Rattle.slot_rows.proofs.slots.OrderedSlots.remove.Goals as goal

pub remove-requires-in-Ok : goal.remove-requires-in-Ok
remove-requires-in-Ok g c =
    let s = c.args.self.now in
    let place = rw c.deref.ensures.value at c.in-Ok.ensures.found in
    let named = subst (λ slot. slot ≡ get_or s.by_key.items c.in-Ok.index slot) (sym c.from-slot.ensures) c.remove.ensures.value in
    let there = has_row g.K.Ord.cmp g.row.MOST g.met.K.Ord.total s.slots s.slots s.by_key.items (vec_capacity s.by_key) c.requires.slotted c.in-Ok.index c.from-slot.result place.0 named in
    subst IsSome (sym there) refl

pub returns-in-Ok-clause-slotted : goal.returns-in-Ok-clause-slotted
returns-in-Ok-clause-slotted g c =
    let s = c.args.self.now in
    let place = rw c.deref.ensures.value at c.in-Ok.ensures.found in
    let named = subst (λ slot. slot ≡ get_or s.by_key.items c.in-Ok.index slot) (sym c.from-slot.ensures) c.remove.ensures.value in
    let left = gone g.K.Ord.cmp g.row.MOST g.met.K.Ord.total s.slots c.remove-in-Ok.new.self s.by_key.items (vec_capacity s.by_key) c.requires.slotted c.args.key.now c.in-Ok.index c.from-slot.result _ _ place.0 named c.remove.ensures.items c.remove-in-Ok.ensures.updates c.remove-in-Ok.ensures.len c.remove-in-Ok.ensures.capacity c.remove.ensures.capacity place.3 in
    left.slotted

pub returns-in-Ok-clause-rows : goal.returns-in-Ok-clause-rows
returns-in-Ok-clause-rows g c =
    let s = c.args.self.now in
    let place = rw c.deref.ensures.value at c.in-Ok.ensures.found in
    let named = subst (λ slot. slot ≡ get_or s.by_key.items c.in-Ok.index slot) (sym c.from-slot.ensures) c.remove.ensures.value in
    let left = gone g.K.Ord.cmp g.row.MOST g.met.K.Ord.total s.slots c.remove-in-Ok.new.self s.by_key.items (vec_capacity s.by_key) c.requires.slotted c.args.key.now c.in-Ok.index c.from-slot.result _ _ place.0 named c.remove.ensures.items c.remove-in-Ok.ensures.updates c.remove-in-Ok.ensures.len c.remove-in-Ok.ensures.capacity c.remove.ensures.capacity place.3 in
    left.rows_are

pub returns-in-Ok-clause-marked : goal.returns-in-Ok-clause-marked
returns-in-Ok-clause-marked g c =
    let s = c.args.self.now in
    marked_gone g.N.Numbering.number s.slots c.remove-in-Ok.new.self s.marks c.go.new.self c.from-slot.result c.requires.marked c.remove-in-Ok.ensures.updates c.go.ensures

pub returns-in_err-slot_of-clause-rows : goal.returns-in_err-slot_of-clause-rows
returns-in_err-slot_of-clause-rows g c =
    let s = c.args.self.now in
    sym (where_key-absent g.K.Ord.cmp c.args.key.now (rows_of s.slots s.by_key.items) c.in_err-slot_of.ensures.absent)

use Rattle.std.proofs.Common.{◌≡◌, ℕ, Some, ap, sym, subst, ◌∙◌}
use Rattle.std.specs.Option.{option_map}
use Rattle.std.specs.Prelude.{vec_capacity}
use Rattle.std.specs.declared.cmp.Ordering.TheVariants.{Equal}
use Rattle.slab.specs.Slab.{get}
use Rattle.slot_rows.specs.Marks.{Admits, mark_of}
use Rattle.slot_rows.specs.Slots.{rows_of}
use Rattle.slot_rows.specs.declared.marks.Mark.{Mark}
use Rattle.slot_rows.proofs.Marked.{no_row, not_found}
use Rattle.slot_rows.proofs.Named.{there_is, value_by_slot}
use Rattle.slot_rows.proofs.Places.{value_at}
use Rattle.slot_rows.proofs.slots.OrderedSlots.slot_of.Goals as goal

pub returns-in-Some-clause-found : goal.returns-in-Some-clause-found
returns-in-Some-clause-found g c =
    let s = c.args.self.now in
    let there = there_is (λ (row : g.row.K.Denot × g.row.V.Denot). g.K.Ord.cmp row.0 c.args.key.now ≡ Equal) (get s.slots c.in-Some.slot) c.in-Some.ensures.found in
    value_by_slot g.K.Ord.cmp g.met.K.Ord.total g.row.MOST s.slots s.by_key.items (vec_capacity s.by_key) c.requires.slotted c.args.key.now c.in-Some.slot there.0 there.1.0 there.1.1

pub returns-in-Ok-clause-found : goal.returns-in-Ok-clause-found
returns-in-Ok-clause-found g c =
    let s = c.args.self.now in
    let place = rw c.deref.ensures.value at c.in-Ok.ensures.found in
    ap (λ slot. option_map (λ row. row.1) (get s.slots slot)) (c.from.ensures ∙ c.index.ensures)
    ∙ value_at (get s.slots) s.by_key.items (rows_of s.slots s.by_key.items) c.requires.slotted.filled c.in-Ok.index c.index.result.now _ place.0 place.1

pub returns-else-is_shared-clause-absent : goal.returns-else-is_shared-clause-absent
returns-else-is_shared-clause-absent g c =
    let s = c.args.self.now in
    let q = c.args.key.now in
    let mark = c.mark-mark.ensures ∙ ap (mark_of s.marks) c.number.ensures in
    let none : (slot : ℕ) (row : g.row.K.Denot × g.row.V.Denot) → get s.slots slot ≡ Some row → g.K.Ord.cmp row.0 q ≡ Equal → Admits (mark_of s.marks (g.N.Numbering.number q)) slot → ⊥ = λ slot row is tie admits.
    c.in-None.ensures.absent (sym c.is_shared.ensures ∙ c.if-is_shared.false) slot row is tie (subst (λ (m : Mark). Admits m slot) (sym mark) admits) in
    not_found g.K.Ord.cmp g.met.K.Ord.total q (get s.slots) (no_row g.N.Numbering.number g.K.Ord.cmp g.met.N.Numbering.same q s.slots s.marks c.requires.marked none) s.by_key.items (rows_of s.slots s.by_key.items) c.requires.slotted.filled

use Rattle.std.proofs.Common.{◌≡◌, ◌++◌, ◌∷◌, [], suc, drop, get_or, refl, true, false, take, sym, subst, ap, ◌∙◌, arith}
use Rattle.std.specs.Option.{IsSome}
use Rattle.std.specs.Prelude.{vec_capacity}
use Rattle.slab.specs.Slab.{get}
use Rattle.slot_rows.specs.Slots.{rows_of}
use Rattle.slot_rows.proofs.Filled.{length_read}
use Rattle.slot_rows.proofs.Changes.{changed_at, gone_at, has_row, row_of_place, that_row}
use Rattle.slot_rows.proofs.Marked.{marked_gone, marked_written}
use Rattle.slot_rows.proofs.Swept.{swept, swept_goes, swept_stays}
use Rattle.slot_rows.proofs.slots.OrderedSlots.sweep_place.Goals as goal

pub remove-row-requires : goal.remove-row-requires
remove-row-requires g c =
    let s = c.args.self.now in
    let gone = c.from-emptied in
    let named = subst (λ slot. slot ≡ get_or s.by_key.items c.args.place slot) (sym gone.ensures) c.remove.ensures.value in
    let there = has_row g.K.Ord.cmp g.row.MOST g.met.K.Ord.total s.slots s.slots s.by_key.items (vec_capacity s.by_key) c.requires.slotted c.args.place gone.result c.requires.within named in
    subst IsSome (sym there) refl

pub returns-then-stays_at : goal.returns-then-stays_at
returns-then-stays_at g c =
    let s = c.args.self.now in
    let t = c.leave_at.new.slots in
    let order = s.by_key.items in
    let rows = rows_of s.slots order in
    let capacity = vec_capacity s.by_key in
    let at = c.from-slot.result in
    let place = c.args.place in
    let named : at ≡ get_or order place at = subst (λ slot. slot ≡ get_or order place slot) (sym c.from-slot.ensures) c.index.ensures in
    let kept = c.requires.slotted in
    let stays = g.S.Sweep.stays c.args.sweep.now in
    let left : g.row.K.Denot × g.row.V.Denot → g.row.K.Denot × g.row.V.Denot = λ row. (row.0, g.S.Sweep.left c.args.sweep.now row.1) in
    let row = row_of_place g.K.Ord.cmp g.row.MOST g.met.K.Ord.total s.slots t order capacity kept place c.requires.within in
    let there = has_row g.K.Ord.cmp g.row.MOST g.met.K.Ord.total s.slots t order capacity kept place at c.requires.within named in
    let updates = c.leave_at.ensures.written row there in
    let now = changed_at g.K.Ord.cmp g.row.MOST g.met.K.Ord.total s.slots t order capacity kept (g.S.Sweep.left c.args.sweep.now row.1) place at c.requires.within named updates c.leave_at.ensures.len c.leave_at.ensures.capacity in
    let is : stays row ≡ true = sym (c.stays_at.ensures row there) ∙ c.if-stays_at.true in
    record {
      slotted = now.slotted;
      marked = marked_written g.N.Numbering.number s.slots t s.marks at row (g.S.Sweep.left c.args.sweep.now row.1) c.requires.marked there updates;
      rows = λ d.
          now.rows_are
          ∙ swept_stays stays left rows place row (omega (arith, c.requires.within, length_read (get s.slots) order rows kept.filled)) is
          ∙ ap (λ r. take place rows ++ swept stays left (r ∷ []) ++ drop (suc place) rows) (that_row g.K.Ord.cmp g.row.MOST g.met.K.Ord.total s.slots t order capacity kept place c.requires.within d);
      capacity = c.leave_at.ensures.capacity;
    }

pub returns-else-stays_at : goal.returns-else-stays_at
returns-else-stays_at g c =
    let s = c.args.self.now in
    let t = c.remove-row.new.self in
    let order = s.by_key.items in
    let rows = rows_of s.slots order in
    let capacity = vec_capacity s.by_key in
    let at = c.from-slot.result in
    let place = c.args.place in
    let named : at ≡ get_or order place at = subst (λ slot. slot ≡ get_or order place slot) (sym c.from-slot.ensures) c.index.ensures in
    let kept = c.requires.slotted in
    let stays = g.S.Sweep.stays c.args.sweep.now in
    let left : g.row.K.Denot × g.row.V.Denot → g.row.K.Denot × g.row.V.Denot = λ row. (row.0, g.S.Sweep.left c.args.sweep.now row.1) in
    let row = row_of_place g.K.Ord.cmp g.row.MOST g.met.K.Ord.total s.slots t order capacity kept place c.requires.within in
    let there = has_row g.K.Ord.cmp g.row.MOST g.met.K.Ord.total s.slots t order capacity kept place at c.requires.within named in
    let is : stays row ≡ false = sym (c.stays_at.ensures row there) ∙ c.if-stays_at.false in
    let gone = c.remove in
    let emptied = c.from-emptied.result in
    let named_gone : emptied ≡ get_or order place emptied = subst (λ slot. slot ≡ get_or order place slot) (sym c.from-emptied.ensures) gone.ensures.value in
    let now = gone_at g.K.Ord.cmp g.row.MOST g.met.K.Ord.total s.slots t order capacity kept place emptied (vec_capacity gone.new.self) gone.new.self.items c.requires.within named_gone gone.ensures.items c.remove-row.ensures.updates c.remove-row.ensures.len c.remove-row.ensures.capacity gone.ensures.capacity in
    record {
      slotted = now.slotted;
      marked = marked_gone g.N.Numbering.number s.slots t s.marks c.go.new.self emptied c.requires.marked c.remove-row.ensures.updates c.go.ensures;
      rows = λ d.
          now.rows_are
          ∙ swept_goes stays left rows place row is
          ∙ ap (λ r. take place rows ++ swept stays left (r ∷ []) ++ drop (suc place) rows) (that_row g.K.Ord.cmp g.row.MOST g.met.K.Ord.total s.slots t order capacity kept place c.requires.within d);
      capacity = c.remove-row.ensures.capacity;
    }

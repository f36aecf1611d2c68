use Rattle.std.proofs.Common.{◌≡◌, get_or, refl, sym, subst, rules}
use Rattle.std.specs.List.{insert}
use Rattle.std.specs.Option.{IsSomeAnd}
use Rattle.std.specs.Prelude.{vec_capacity}
use Rattle.std.specs.declared.cmp.Ordering.TheVariants.{Equal}
use Rattle.slot_rows.proofs.Changes.{added, has_row, of_that_row, over}
use Rattle.slot_rows.proofs.slots.OrderedSlots.set_by_search.Goals as goal

pub returns-in-Ok : goal.returns-in-Ok
returns-in-Ok g c =
    let s = c.args.self.now in
    let t = c.write_value.new.slots in
    let capacity = vec_capacity s.by_key in
    let place = rw c.deref.ensures.value at c.in-Ok.ensures.found in
    let ties = rw c.deref.ensures.value at c.in-Ok.ensures.ties in
    let at = c.from-slot.result in
    let is : at ≡ get_or s.by_key.items c.in-Ok.index at = subst (λ slot. slot ≡ get_or s.by_key.items c.in-Ok.index slot) (sym c.from-slot.ensures) c.index.ensures in
    let there = has_row g.K.Ord.cmp g.row.MOST g.met.K.Ord.total s.slots t s.by_key.items capacity c.requires.slotted c.in-Ok.index at place.0 is in
    let updates = c.write_value.ensures.written _ there in
    let left = over g.K.Ord.cmp g.row.MOST g.met.K.Ord.total s.slots t s.by_key.items capacity c.requires.slotted c.args.key c.args.value c.in-Ok.index at place.0 is updates c.write_value.ensures.len c.write_value.ensures.capacity (place.2 c.args.value) c.requires.few in
    let tie = of_that_row g.K.Ord.cmp g.row.MOST g.met.K.Ord.total s.slots t s.by_key.items capacity c.requires.slotted (λ row. g.K.Ord.cmp row.0 c.args.key ≡ Equal) c.in-Ok.index place.0 ties in
    record {
      slotted = left.slotted;
      rows = left.rows_are;
      slot = subst (λ o. IsSomeAnd o (λ row. (row.1 ≡ c.args.value) × (g.K.Ord.cmp row.0 c.args.key ≡ Equal))) (sym updates.changed) (refl, tie);
      others = updates.others;
      capacity = c.write_value.ensures.capacity;
      marks = refl;
    }

pub returns-in-Err-clause-slotted : goal.returns-in-Err-clause-slotted
returns-in-Err-clause-slotted g c =
    let s = c.args.self.now in
    let new = c.insert_reserved-slot in
    let place = rw c.deref.ensures.value at c.in-Err.ensures.absent in
    let items : c.insert.new.self.items ≡ insert s.by_key.items c.in-Err.index new.result = search rules in
    (added g.K.Ord.cmp g.row.MOST g.met.K.Ord.total s.slots new.new.self s.by_key.items (vec_capacity s.by_key) c.requires.slotted c.args.key c.args.value c.in-Err.index new.result (vec_capacity c.insert.new.self) c.insert.new.self.items place.0 items new.ensures.was_vacant new.ensures.updates new.ensures.len new.ensures.capacity c.insert.ensures.capacity (place.2 c.args.value) c.requires.few).slotted

pub returns-in-Err-clause-rows : goal.returns-in-Err-clause-rows
returns-in-Err-clause-rows g c =
    let s = c.args.self.now in
    let new = c.insert_reserved-slot in
    let place = rw c.deref.ensures.value at c.in-Err.ensures.absent in
    let items : c.insert.new.self.items ≡ insert s.by_key.items c.in-Err.index new.result = search rules in
    (added g.K.Ord.cmp g.row.MOST g.met.K.Ord.total s.slots new.new.self s.by_key.items (vec_capacity s.by_key) c.requires.slotted c.args.key c.args.value c.in-Err.index new.result (vec_capacity c.insert.new.self) c.insert.new.self.items place.0 items new.ensures.was_vacant new.ensures.updates new.ensures.len new.ensures.capacity c.insert.ensures.capacity (place.2 c.args.value) c.requires.few).rows_are

use Rattle.std.proofs.Common.{◌≡◌, ℕ, subst}
use Rattle.std.specs.Prelude.{vec_capacity}
use Rattle.std.specs.declared.cmp.Ordering.TheVariants.{Equal}
use Rattle.slab.specs.Slab.{get}
use Rattle.slot_rows.specs.Marks.{Admits, mark_of}
use Rattle.slot_rows.specs.declared.marks.Marks.{Marks}
use Rattle.slot_rows.proofs.Marked.{marked_come, marked_written}
use Rattle.slot_rows.proofs.Named.{set_by_slot, there_is}
use Rattle.slot_rows.proofs.slots.OrderedSlots.set.Goals as goal

pub returns-in-Some-clause-slotted : goal.returns-in-Some-clause-slotted
returns-in-Some-clause-slotted g c =
    let s = c.args.self.now in
    let there = there_is (λ (row : g.row.K.Denot × g.row.V.Denot). g.K.Ord.cmp row.0 c.args.key ≡ Equal) (get s.slots c.in-Some.slot) c.in-Some.ensures.found in
    (set_by_slot g.K.Ord.cmp g.met.K.Ord.total g.row.MOST s.slots s.by_key.items (vec_capacity s.by_key) c.requires.slotted c.args.key c.in-Some.slot there.0 there.1.0 there.1.1 c.write_value.new.slots c.args.value (c.write_value.ensures.written _ there.1.0) c.write_value.ensures.len c.write_value.ensures.capacity c.requires.few).slotted

pub returns-in-Some-clause-rows : goal.returns-in-Some-clause-rows
returns-in-Some-clause-rows g c =
    let s = c.args.self.now in
    let there = there_is (λ (row : g.row.K.Denot × g.row.V.Denot). g.K.Ord.cmp row.0 c.args.key ≡ Equal) (get s.slots c.in-Some.slot) c.in-Some.ensures.found in
    (set_by_slot g.K.Ord.cmp g.met.K.Ord.total g.row.MOST s.slots s.by_key.items (vec_capacity s.by_key) c.requires.slotted c.args.key c.in-Some.slot there.0 there.1.0 there.1.1 c.write_value.new.slots c.args.value (c.write_value.ensures.written _ there.1.0) c.write_value.ensures.len c.write_value.ensures.capacity c.requires.few).rows_are

pub returns-in-Some-clause-marked : goal.returns-in-Some-clause-marked
returns-in-Some-clause-marked g c =
    let s = c.args.self.now in
    let there = there_is (λ (row : g.row.K.Denot × g.row.V.Denot). g.K.Ord.cmp row.0 c.args.key ≡ Equal) (get s.slots c.in-Some.slot) c.in-Some.ensures.found in
    marked_written g.N.Numbering.number s.slots c.write_value.new.slots s.marks c.in-Some.slot there.0 c.args.value c.requires.marked there.1.0 (c.write_value.ensures.written _ there.1.0)

pub returns-in-None-clause-marked : goal.returns-in-None-clause-marked
returns-in-None-clause-marked g c =
    let s = c.args.self.now in
    let put = c.set_by_search-slot in
    let t = put.new.self in
    let there = there_is (λ (row : g.row.K.Denot × g.row.V.Denot). (row.1 ≡ c.args.value) × (g.K.Ord.cmp row.0 c.args.key ≡ Equal)) (get t.slots put.result) put.ensures.slot in
    let own = rw c.number-number.ensures at c.come.ensures.own in
    let still = subst (λ (marks : Marks). (n other : ℕ) → Admits (mark_of marks n) other → Admits (mark_of c.come.new.self n) other) put.ensures.marks c.come.ensures.others in
    marked_come g.N.Numbering.number g.K.Ord.cmp g.met.N.Numbering.same c.args.key s.slots t.slots s.marks c.come.new.self put.result there.0 c.requires.marked put.ensures.others there.1.0 there.1.1.1 own still

use Rattle.std.proofs.Common.{◌≡◌, ◌∷◌, ◌++◌, [], rules}
use Rattle.std.specs.Cmp.{tied_itself}
use Rattle.std.specs.Prelude.{vec_capacity}
use Rattle.slot_rows.proofs.Changes.{pushed}
use Rattle.slot_rows.proofs.Marked.{marked_come}
use Rattle.slot_rows.proofs.slots.OrderedSlots.push_row.Goals as goal

pub returns-clause-slotted : goal.returns-clause-slotted
returns-clause-slotted g c =
    let s = c.args.self.now in
    let new = c.insert_reserved-slot in
    let items : c.push.new.self.items ≡ s.by_key.items ++ new.result ∷ [] = search rules in
    (pushed g.K.Ord.cmp g.row.MOST g.met.K.Ord.total s.slots new.new.self s.by_key.items (vec_capacity s.by_key) c.requires.slotted c.args.row new.result (vec_capacity c.push.new.self) c.push.new.self.items c.requires.room items new.ensures.was_vacant new.ensures.updates new.ensures.len new.ensures.capacity c.push.ensures.capacity c.requires.in_order).slotted

pub returns-clause-rows : goal.returns-clause-rows
returns-clause-rows g c =
    let s = c.args.self.now in
    let new = c.insert_reserved-slot in
    let items : c.push.new.self.items ≡ s.by_key.items ++ new.result ∷ [] = search rules in
    (pushed g.K.Ord.cmp g.row.MOST g.met.K.Ord.total s.slots new.new.self s.by_key.items (vec_capacity s.by_key) c.requires.slotted c.args.row new.result (vec_capacity c.push.new.self) c.push.new.self.items c.requires.room items new.ensures.was_vacant new.ensures.updates new.ensures.len new.ensures.capacity c.push.ensures.capacity c.requires.in_order).rows_are

pub returns-clause-marked : goal.returns-clause-marked
returns-clause-marked g c =
    let s = c.args.self.now in
    let new = c.insert_reserved-slot in
    let own = rw c.number-number.ensures at c.come.ensures.own in
    marked_come g.N.Numbering.number g.K.Ord.cmp g.met.N.Numbering.same c.args.row.0 s.slots new.new.self s.marks c.come.new.self new.result c.args.row c.requires.marked new.ensures.updates.others new.ensures.updates.changed (tied_itself g.met.K.Ord.total c.args.row.0) own c.come.ensures.others

use Rattle.std.proofs.Common.{rules}
use Rattle.std.specs.Option.{option_map_or}
use Rattle.std.specs.declared.cmp.Ordering.TheVariants.{Less}
use Rattle.std.proofs.lemmas.Fn.{always_returns_same}
use Rattle.slab.specs.Slab.{get}
use Rattle.slot_rows.specs.Slots.{rows_of}
use Rattle.slot_rows.proofs.Places.{searched, searched_range}
use Rattle.slot_rows.proofs.slots.OrderedSlots.search.Goals as goal

pub returns-clause-bound : goal.returns-clause-bound
returns-clause-bound g c =
    let s = c.args.self.now in
    searched_range (λ row. g.P.Probe.compares c.args.probe.now row.0) (get s.slots) s.by_key.items (rows_of s.slots s.by_key.items) c.requires c.binary_search_by.result (rw c.deref.ensures.value at c.binary_search_by.ensures.bound)

pub returns-clause-position : goal.returns-clause-position
returns-clause-position g c =
    let s = c.args.self.now in
    let is = c.binary_search_by.ensures.position (λ slot. option_map_or (λ row. g.P.Probe.compares c.args.probe.now row.0) (get s.slots slot) Less) (always_returns_same _ _ _ (λ a r f' called. search rules)) in
    searched (λ row. g.P.Probe.compares c.args.probe.now row.0) (get s.slots) s.by_key.items (rows_of s.slots s.by_key.items) c.requires c.binary_search_by.result (rw c.deref.ensures.value at c.binary_search_by.ensures.bound) (rw c.deref.ensures.value at is)

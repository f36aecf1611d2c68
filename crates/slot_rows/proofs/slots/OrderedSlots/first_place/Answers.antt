use Rattle.std.proofs.Common.{rules, arith}
use Rattle.std.specs.Option.{option_map_or}
use Rattle.std.specs.Ordering.{is_lt}
use Rattle.std.specs.declared.cmp.Ordering.TheVariants.{Less}
use Rattle.std.proofs.lemmas.Fn.{always_returns_same}
use Rattle.slab.specs.Slab.{get}
use Rattle.slot_rows.specs.Slots.{rows_of}
use Rattle.slot_rows.proofs.Filled.{length_read}
use Rattle.slot_rows.proofs.Places.{parted}
use Rattle.slot_rows.proofs.slots.OrderedSlots.first_place.Goals as goal

pub returns-clause-bound : goal.returns-clause-bound
returns-clause-bound g c =
    let s = c.args.self.now in
    let bound = rw c.deref.ensures.value at c.partition_point.ensures.bound in
    omega (arith, bound, length_read (get s.slots) s.by_key.items (rows_of s.slots s.by_key.items) c.requires)

pub returns-clause-partitioned : goal.returns-clause-partitioned
returns-clause-partitioned g c =
    let s = c.args.self.now in
    let bound = rw c.deref.ensures.value at c.partition_point.ensures.bound in
    let is = c.partition_point.ensures.partitioned (λ slot. is_lt (option_map_or (λ row. g.P.Probe.compares c.args.probe.now row.0) (get s.slots slot) Less)) (always_returns_same _ _ _ (λ a r f' called. search rules)) in
    parted (λ row. g.P.Probe.compares c.args.probe.now row.0) (get s.slots) s.by_key.items (rows_of s.slots s.by_key.items) c.requires c.partition_point.result bound (rw c.deref.ensures.value at is)

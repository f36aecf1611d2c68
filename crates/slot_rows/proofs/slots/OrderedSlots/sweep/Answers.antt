use Rattle.std.proofs.Common.{◌≡◌, ◌<◌, ◌-◌, ◌++◌, suc, drop, length, take, subst, ◌∙◌, arith}
use Rattle.slot_rows.specs.Slots.{rows_of}
use Rattle.slot_rows.proofs.Places.{some_of}
use Rattle.slot_rows.proofs.Swept.{swept, swept_more}
use Rattle.slot_rows.proofs.slots.OrderedSlots.sweep.Goals as goal

pub loop-left-preserved : goal.loop-left-preserved
loop-left-preserved g c =
    let stays = g.S.Sweep.stays c.args.sweep.now in
    let left : g.row.K.Denot × g.row.V.Denot → g.row.K.Denot × g.row.V.Denot = λ row. (row.0, g.S.Sweep.left c.args.sweep.now row.1) in
    let all = rows_of c.args.self.now.slots c.args.self.now.by_key.items in
    let was = c.loop-left.self in
    let before = rows_of was.slots was.by_key.items in
    let n = c.loop-left.left in
    let step : n ≡ suc (n - 1) = omega arith in
    let within : n - 1 < length all = omega (arith, c.loop-left.invariant.within) in
    let d = some_of all (n - 1) within in
    let so_far = subst (λ m. before ≡ take m all ++ swept stays left (drop m all)) step c.loop-left.invariant.rows in
    record {
      slotted = c.sweep_place.ensures.slotted;
      marked = c.sweep_place.ensures.marked;
      within = omega (arith, c.loop-left.invariant.within);
      rows = swept_more stays left all before _ (n - 1) d within so_far (c.sweep_place.ensures.rows d);
      capacity = c.sweep_place.ensures.capacity ∙ c.loop-left.invariant.capacity;
    }

use Rattle.std.proofs.Common.{Some, sym, ap, ◌∙◌}
use Rattle.slab.specs.Slab.{get}
use Rattle.slot_rows.specs.Slots.{rows_of}
use Rattle.slot_rows.proofs.Places.{has_row}
use Rattle.timed_rows.proofs.Gather.{found_some, found_there}
use Rattle.timed_rows.proofs.gathered.place_of.Goals as goal

pub returns-in-Ok : goal.returns-in-Ok
returns-in-Ok g c k within named =
    let slots = c.args.slots.now in
    let order = c.args.by_key.now in
    let row = c.in-Some.row.now in
    ap Some (found_there g.K.Ord.cmp g.met.K.Ord.total (get slots) order (rows_of slots order) c.requires.filled c.requires.in_order c.args.slot row (sym c.in-Some.ensures) k within named c.in-Ok.index c.in-Ok.ensures.found.0 (c.in-Ok.ensures.ties row))

pub returns-in-Err : goal.returns-in-Err
returns-in-Err g c k within named =
    let slots = c.args.slots.now in
    let order = c.args.by_key.now in
    absurd (found_some g.K.Ord.cmp g.met.K.Ord.total (get slots) order (rows_of slots order) c.requires.filled c.requires.in_order c.args.slot c.in-Some.row.now (sym c.in-Some.ensures) k within named c.in-Err.ensures.absent.1)

pub returns-in-None : goal.returns-in-None
returns-in-None g c k within named =
    let slots = c.args.slots.now in
    let order = c.args.by_key.now in
    absurd (has_row (get slots) order (rows_of slots order) c.requires.filled k 0 within (ap (get slots) named ∙ sym c.in-None.ensures))

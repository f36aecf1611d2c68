use Rattle.std.specs.Prelude.{vec_capacity}
use Rattle.sorted_rows.proofs.ReservedRows.{reserved_swept}
use Rattle.sorted_rows.proofs.reserved.ReservedTable.sweep.Goals as goal

pub invariant_of-self : goal.invariant_of-self
invariant_of-self g c =
    rw (c.leave_values.ensures.rows, c.leave_values.ensures.capacity, c.keep_staying.ensures.rows, c.keep_staying.ensures.capacity)
    (reserved_swept g.K.Ord.cmp g.row.MOST c.self.inside.rows.items (vec_capacity c.self.inside.rows) c.self.invariant (g.S.Sweep.stays c.args.sweep.now) (g.S.Sweep.left c.args.sweep.now))

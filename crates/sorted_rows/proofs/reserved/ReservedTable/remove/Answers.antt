use Rattle.std.specs.Prelude.{vec_capacity}
use Rattle.sorted_rows.proofs.ReservedRows.{reserved_removed}
use Rattle.sorted_rows.proofs.reserved.ReservedTable.remove.Goals as goal

pub invariant_of-self : goal.invariant_of-self
invariant_of-self g c =
    rw (c.remove.ensures.removed, c.remove.ensures.capacity) (reserved_removed g.K.Ord.cmp g.row.MOST c.self.inside.rows.items (vec_capacity c.self.inside.rows) c.self.invariant g.met.K.Ord.total c.args.key.now)

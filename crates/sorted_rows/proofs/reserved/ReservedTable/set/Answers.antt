use Rattle.std.proofs.Common.{◌≤◌, length, arith}
use Rattle.std.specs.FinMap.Entries.{put}
use Rattle.std.specs.Prelude.{vec_capacity}
use Rattle.sorted_rows.proofs.ReservedRows.{after_ok, reserved_set}
use Rattle.sorted_rows.proofs.reserved.ReservedTable.set.Goals as goal

pub unwrap-requires : goal.unwrap-requires
unwrap-requires g c =
    let fits : length (put g.K.Ord.cmp c.args.key c.args.value c.self.inside.rows.items) ≤ g.row.MOST = rw c.self.view_is c.requires in
    c.set.ensures.room (omega (arith, c.self.invariant.room))

pub invariant_of-self : goal.invariant_of-self
invariant_of-self g c =
    let fits : length (put g.K.Ord.cmp c.args.key c.args.value c.self.inside.rows.items) ≤ g.row.MOST = rw c.self.view_is c.requires in
    rw (after_ok c.set.result (c.set.ensures.room (omega (arith, c.self.invariant.room))) c.set.ensures.ok)
    (reserved_set g.K.Ord.cmp g.row.MOST c.self.inside.rows.items (vec_capacity c.self.inside.rows) c.self.invariant g.met.K.Ord.total c.args.key c.args.value (vec_capacity c.set.new.rows) fits c.set.ensures.capacity)

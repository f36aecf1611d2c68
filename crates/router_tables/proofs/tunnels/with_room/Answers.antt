-- The tunnel that is taken from the end comes in front of those that were taken.
use Rattle.std.proofs.Common.{arith, nat_cmp}
use Rattle.router_tables.proofs.Taking.{room_next, taken_next}
use Rattle.router_tables.proofs.tunnels.with_room.Goals as goal

pub set-requires : goal.set-requires
set-requires c =
    let room = room_next nat_cmp c.args.tunnels c.loop-number.rows.items c.pop.new.self.items c.loop-number.all (c.in-Some.number, c.in-Some.tunnel) c.into_rows-rows.ensures.sorted c.loop-number.invariant c.in-Some.ensures.items in
    (omega arith, omega (arith, room, c.requires))

pub loop-number-preserved : goal.loop-number-preserved
loop-number-preserved c =
    taken_next nat_cmp c.args.tunnels c.loop-number.rows.items c.pop.new.self.items c.loop-number.all (c.in-Some.number, c.in-Some.tunnel) c.into_rows-rows.ensures.sorted c.loop-number.invariant c.in-Some.ensures.items c.set.new.self c.set.ensures

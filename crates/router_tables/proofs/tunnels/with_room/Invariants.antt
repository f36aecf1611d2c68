use Rattle.std.proofs.Common.{◌≡◌, ◌++◌, length}
use Rattle.router_tables.proofs.tunnels.with_room.Given as goal

-- the tunnels that are left stand before those that were taken
abbrev pub invariant-loop-number : goal.invariant-loop-number
invariant-loop-number l = l.rows.items ++ l.all ≡ l.fn.tunnels

abbrev pub decreases-loop-number : goal.decreases-loop-number
decreases-loop-number l = length l.rows.items

-- The lines of the tunnels so far, after what there was.
use Rattle.std.proofs.Common.{◌≡◌, ◌++◌, take, string_bytes}
use Rattle.std.specs.List.{flat_map}
use Rattle.lsr_watch.specs.Tunnels.{dropped_line}
use Rattle.lsr_watch.proofs.tunnels.push_all_dropped.Given as goal

abbrev pub invariant-loop-row : goal.invariant-loop-row
invariant-loop-row l = string_bytes l.text ≡ string_bytes l.fn.text ++ flat_map (dropped_line l.after) (take l.row-index l.rows)

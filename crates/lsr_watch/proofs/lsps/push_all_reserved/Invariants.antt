-- The lines of the reservations so far, after what there was.
use Rattle.std.proofs.Common.{◌≡◌, ◌++◌, take, string_bytes}
use Rattle.std.specs.List.{flat_map}
use Rattle.lsr_watch.specs.Lsps.{reserved_line}
use Rattle.lsr_watch.proofs.lsps.push_all_reserved.Given as goal

abbrev pub invariant-loop-place : goal.invariant-loop-place
invariant-loop-place l = string_bytes l.text ≡ string_bytes l.fn.text ++ flat_map (reserved_line l.before) (take l.place l.rows)

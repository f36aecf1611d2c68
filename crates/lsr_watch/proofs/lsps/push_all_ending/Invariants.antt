-- The lines of the paths so far, after what there was.
use Rattle.std.proofs.Common.{◌≡◌, ◌++◌, take, string_bytes}
use Rattle.std.specs.List.{flat_map}
use Rattle.lsr_watch.specs.Lsps.{ending_line}
use Rattle.lsr_watch.proofs.lsps.push_all_ending.Given as goal

abbrev pub invariant-loop-place : goal.invariant-loop-place
invariant-loop-place l = string_bytes l.text ≡ string_bytes l.fn.text ++ flat_map (ending_line l.before) (take l.place l.rows)

-- The lines of the paths so far, after what there was.
use Rattle.std.proofs.Common.{◌≡◌, ◌++◌, take, string_bytes}
use Rattle.std.specs.List.{flat_map}
use Rattle.lsr_watch.specs.Lsps.{lost_tail_line}
use Rattle.lsr_watch.proofs.lsps.push_all_lost_tails.Given as goal

abbrev pub invariant-loop-place : goal.invariant-loop-place
invariant-loop-place l = string_bytes l.text ≡ string_bytes l.fn.text ++ flat_map (lost_tail_line l.after) (take l.place l.rows)

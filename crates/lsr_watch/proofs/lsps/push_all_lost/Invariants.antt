-- The lines of the LSPs so far, after what there was.
use Rattle.std.proofs.Common.{◌≡◌, ◌++◌, take, string_bytes}
use Rattle.std.specs.List.{flat_map}
use Rattle.lsr_watch.specs.Lsps.{lost_line}
use Rattle.lsr_watch.proofs.lsps.push_all_lost.Given as goal

abbrev pub invariant-loop-place : goal.invariant-loop-place
invariant-loop-place g l = string_bytes l.text ≡ string_bytes l.fn.text ++ flat_map (λ row. lost_line l.after row.0) (take l.place l.rows)

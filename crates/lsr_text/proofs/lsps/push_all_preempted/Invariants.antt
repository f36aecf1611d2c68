-- The LSPs so far, after what there was.
use Rattle.std.proofs.Common.{◌≡◌, ◌++◌, take, string_bytes}
use Rattle.std.specs.List.{flat_map}
use Rattle.lsr_text.specs.Lsps.{preempted_line}
use Rattle.lsr_text.proofs.lsps.push_all_preempted.Given as goal

abbrev pub invariant-loop-row : goal.invariant-loop-row
invariant-loop-row l = string_bytes l.text ≡ string_bytes l.fn.text ++ flat_map (preempted_line l.state l.link l.setup) (take l.row-index l.row-items)

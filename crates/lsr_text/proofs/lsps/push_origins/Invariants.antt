-- The origins so far, after what there was.
use Rattle.std.proofs.Common.{◌≡◌, ◌++◌, take, string_bytes}
use Rattle.std.specs.List.{flat_map}
use Rattle.lsr_text.specs.Lsps.{origin_line}
use Rattle.lsr_text.proofs.lsps.push_origins.Given as goal

abbrev pub invariant-loop-row : goal.invariant-loop-row
invariant-loop-row l = string_bytes l.text ≡ string_bytes l.fn.text ++ flat_map (origin_line l.moment) (take l.row-index l.rows)

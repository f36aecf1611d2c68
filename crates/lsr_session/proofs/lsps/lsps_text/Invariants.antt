-- The lines of the LSPs so far.
use Rattle.std.proofs.Common.{◌≡◌, take, string_bytes}
use Rattle.std.specs.List.{flat_map}
use Rattle.lsr_session.specs.Lsps.{path_line}
use Rattle.lsr_session.proofs.lsps.lsps_text.Given as goal

abbrev pub invariant-loop-row : goal.invariant-loop-row
invariant-loop-row l = string_bytes l.text ≡ flat_map (λ row. path_line l.router l.state row.0 row.1) (take l.row-index l.row-items)

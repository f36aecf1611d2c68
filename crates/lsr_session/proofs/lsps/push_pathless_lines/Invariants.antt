-- The lines of the tunnels so far, after what there was.
use Rattle.std.proofs.Common.{◌≡◌, ◌++◌, take, string_bytes}
use Rattle.std.specs.List.{flat_map}
use Rattle.lsr_session.specs.Lsps.{pathless_line}
use Rattle.lsr_session.proofs.lsps.push_pathless_lines.Given as goal

abbrev pub invariant-loop-row : goal.invariant-loop-row
invariant-loop-row l = string_bytes l.text ≡ string_bytes l.fn.text ++ flat_map (pathless_line l.router l.state) (take l.row-index l.row-items)

-- the tunnels so far are written
use Rattle.std.proofs.Common.{◌≡◌, ◌++◌, map, take}
use Rattle.std.specs.List.{AllByRecursion, flat_map}
use Rattle.journal_files.specs.Fitting.{TunnelRowFits}
use Rattle.journal_files.specs.Pending.{untold_row}
use Rattle.journal_files.specs.Rows.{tunnel_row_bytes}
use Rattle.journal_files.proofs.writing.put_tunnel_rows.Given as goal

abbrev pub invariant-loop-row : goal.invariant-loop-row
invariant-loop-row l =
    (l.out.items ≡ l.initial.out.items ++ flat_map tunnel_row_bytes (map untold_row (take l.row-index l.rows))) × AllByRecursion TunnelRowFits (map untold_row (take l.row-index l.rows))

-- the tunnels so far are told
use Rattle.std.proofs.Common.{◌≡◌, map}
use Rattle.journal_files.specs.Pending.{told_tunnel}
use Rattle.journal_files.proofs.pending.told_rows.Given as goal

abbrev pub invariant-loop-row : goal.invariant-loop-row
invariant-loop-row l = l.rows.items ≡ map (told_tunnel l.router l.paths) l.yielded

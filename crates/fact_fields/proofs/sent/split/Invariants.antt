-- the rows so far are Paths, and then Resvs
use Rattle.std.proofs.Common.{◌≡◌, take}
use Rattle.fact_fields.specs.Sent.{joined}
use Rattle.fact_fields.proofs.sent.split.Given as goal

abbrev pub invariant-loop-row : goal.invariant-loop-row
invariant-loop-row l = joined l.paths.items l.resvs.items ≡ take l.row-index l.rows

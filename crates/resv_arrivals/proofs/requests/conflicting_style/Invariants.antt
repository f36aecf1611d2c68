use Rattle.std.proofs.Common.{◌≡◌, drop}
use Rattle.std.specs.Prelude.{find}
use Rattle.resv_arrivals.specs.Conflicts.{conflicts}
use Rattle.resv_arrivals.proofs.requests.conflicting_style.Given as goal

-- the first of those from here on is the first of all
abbrev pub invariant-loop-row : goal.invariant-loop-row
invariant-loop-row l = find (conflicts l.link l.style l.key) (drop l.row-index l.claims) ≡ find (conflicts l.link l.style l.key) l.claims

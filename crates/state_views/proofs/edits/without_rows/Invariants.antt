use Rattle.std.proofs.Common.{◌≡◌, drop}
use Rattle.state_views.specs.Edits.{without_rows}
use Rattle.state_views.proofs.edits.without_rows.Given as goal

-- so many LSPs have lost theirs
abbrev pub invariant-loop-key : goal.invariant-loop-key
invariant-loop-key g l = without_rows l.left (drop l.key-index l.gone) ≡ without_rows l.fn.edits l.gone

use Rattle.std.proofs.Common.{◌≡◌, drop}
use Rattle.std.specs.Prelude.{fold}
use Rattle.resv_arrivals.specs.Progresses.{without_row}
use Rattle.resv_arrivals.proofs.claims.left_of.Given as goal

-- what is left to do leads where all does
abbrev pub invariant-loop-key : goal.invariant-loop-key
invariant-loop-key l = fold without_row l.left (drop l.key-index l.gone) ≡ fold without_row l.fn.claims l.gone

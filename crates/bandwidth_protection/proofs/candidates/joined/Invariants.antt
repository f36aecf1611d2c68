use Rattle.std.proofs.Common.{◌≡◌, ◌++◌, take}
use Rattle.bandwidth_protection.proofs.candidates.joined.Given as goal

-- so many are put behind
abbrev pub invariant-loop-number : goal.invariant-loop-number
invariant-loop-number l = l.all ≡ l.fn.first ++ take l.number-index l.others

-- None of those so far has so much left.
use Rattle.std.proofs.Common.{◌≡◌, nat_le, drop}
use Rattle.std.proofs.Common.{find as find_first}
use Rattle.bypass_shares.specs.Left.{left_at}
use Rattle.bypass_shares.proofs.left.first_with.Given as goal

abbrev pub invariant-loop-number : goal.invariant-loop-number
invariant-loop-number l =
    find_first (λ number. nat_le l.rate (left_at l.left number)) (drop l.number-index l.numbers) ≡ find_first (λ number. nat_le l.rate (left_at l.left number)) l.numbers

use Rattle.std.proofs.Common.{◌≡◌, drop}
use Rattle.path_state.specs.Expiries.{earliest}
use Rattle.path_state.proofs.expiry.earliest.Given as goal

-- the least so far and those from here on give what all give
abbrev pub invariant-loop-origin : goal.invariant-loop-origin
invariant-loop-origin l = earliest l.least (drop l.origin-index l.origins) ≡ earliest l.moment l.origins

-- The least count lies between these; with one less than the lower the fault isn't there.
use Rattle.std.proofs.Common.{◌≡◌, ◌≤◌, ◌-◌, ◌⊎◌}
use Rattle.config_text.specs.Places.{LacksFault, OfText}
use Rattle.config_text.proofs.place.least_count.Given as goal

abbrev pub invariant-loop-low : goal.invariant-loop-low
invariant-loop-low l =
    (l.low ≤ l.high) × (l.high ≤ l.most) × ((l.low ≡ 0) ⊎ OfText l.text (LacksFault l.fault (l.low - 1)))

abbrev pub decreases-loop-low : goal.decreases-loop-low
decreases-loop-low l = l.high - l.low

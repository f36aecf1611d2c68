use Rattle.std.proofs.Common.{◌≡◌, ℕ, ◌<◌, List, false, length, take}
use Rattle.std.specs.List.{list_any}
use Rattle.timer_wheel.specs.Due.{is_due}
use Rattle.timer_wheel.specs.Rings.{IsRing}
use Rattle.timer_wheel.proofs.Passing.{IsAt}
use Rattle.timer_wheel.proofs.walks.any_due.Given as goal

-- none of the slots that were passed is due
abbrev pub invariant-loop-passed : goal.invariant-loop-passed
invariant-loop-passed l =
    record {
      within : l.at < length l.after;
      passed : (slots : List ℕ) → IsRing l.after (length l.moments) l.head slots → IsAt l.after l.head slots l._passed l.at × (list_any (is_due l.now l.moments) (take l._passed slots) ≡ false);
    }

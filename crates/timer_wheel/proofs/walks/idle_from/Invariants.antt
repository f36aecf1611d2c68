use Rattle.std.proofs.Common.{◌≡◌, ℕ, ◌+◌, ◌%◌, ◌<◌, List, false, length}
use Rattle.std.specs.List.{list_any}
use Rattle.timer_wheel.specs.Due.{is_due}
use Rattle.timer_wheel.specs.Wheels.{AreOfPlaces}
use Rattle.timer_wheel.proofs.walks.idle_from.Given as goal

-- none was due in the places so far
abbrev pub invariant-loop-offset : goal.invariant-loop-offset
invariant-loop-offset l = (slots_of : ℕ → List ℕ) → AreOfPlaces l.after (length l.moments) slots_of → (offset : ℕ) → offset < l.offset → list_any (is_due l.now l.moments) (slots_of ((l.base + offset) % 256)) ≡ false

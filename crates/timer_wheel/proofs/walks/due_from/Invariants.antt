use Rattle.std.proofs.Common.{◌≡◌, ℕ, List, filter, length}
use Rattle.timer_wheel.specs.Due.{is_due}
use Rattle.timer_wheel.specs.Wheels.{AreOfPlaces, from_tick}
use Rattle.timer_wheel.proofs.walks.due_from.Given as goal

-- those of the places so far
abbrev pub invariant-loop-offset : goal.invariant-loop-offset
invariant-loop-offset l = (slots_of : ℕ → List ℕ) → AreOfPlaces l.after (length l.moments) slots_of → l.due.items ≡ from_tick l.base (λ place. filter (is_due l.now l.moments) (slots_of place)) l.offset

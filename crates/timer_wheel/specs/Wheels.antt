-- What always holds of a wheel.
use Rattle.std.specs.Prelude.{ℕ, zero, suc, ◌≡◌, ◌+◌, ◌/◌, ◌%◌, ◌^◌, ◌<◌, ◌≤◌, List, [], ◌++◌, Option, None, Some, Bool, true, false, length, max, nat_eq, slice_index_or}
use Rattle.std.specs.List.{list_any}
use Rattle.timer_wheel.specs.Rings.{AreRings, IsRing}

-- The place in which a slot with a moment stands: that of the moment's tick, or of the wheel's where that has gone by.
abbrev pub place_of : ℕ → ℕ → ℕ
place_of base moment = max (moment / 1024) base % 256

-- Whether a slot that may have a moment stands in the place of another.
abbrev pub stays_with : ℕ → Option ℕ → ℕ → Bool
stays_with base None moment = false
stays_with base (Some had) moment = nat_eq (place_of base had) (place_of base moment)

-- The heads of the 256 places are the nodes from the number of slots on. Each of their rings has slots alone.
abbrev pub AreOfPlaces : List ℕ → ℕ → (ℕ → List ℕ) → Type 0
AreOfPlaces after bound slots_of = (place : ℕ) → place < 256 → IsRing after bound (bound + place) (slots_of place)

-- Each slot with a moment is in the ring of its place, and no other slot is in a ring.
pub record IsWheel (moments : List (Option ℕ)) (after before : List ℕ) (base : ℕ) : Type 0 where
  pub nodes : length after ≡ length moments + 256
  pub rings : AreRings after before
  pub slots_of : ℕ → List ℕ
  pub places : AreOfPlaces after (length moments) slots_of
  pub standing : (slot moment : ℕ) → slice_index_or moments slot None ≡ Some moment → list_any (nat_eq slot) (slots_of (place_of base moment)) ≡ true
  pub only : (place slot : ℕ) → place < 256 → list_any (nat_eq slot) (slots_of place) ≡ true → (moment : ℕ) × (slice_index_or moments slot None ≡ Some moment) × (place_of base moment ≡ place)
  pub early : base ≤ 2 ^ 54

-- What so many places from one tick on give, one after another.
abbrev pub from_tick : ℕ → (ℕ → List ℕ) → ℕ → List ℕ
from_tick base given zero = []
from_tick base given (suc n) = from_tick base given n ++ given ((base + n) % 256)

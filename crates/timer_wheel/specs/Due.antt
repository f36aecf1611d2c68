-- Which slots are due.
use Rattle.std.specs.Prelude.{ℕ, Bool, false, List, Option, None, Some, nat_le, slice_index_or}

-- Whether a moment, where there is one, is not after another.
abbrev pub has_come : ℕ → Option ℕ → Bool
has_come now None = false
has_come now (Some moment) = nat_le moment now

-- Whether a slot has a moment that is not after `now`.
abbrev pub is_due : ℕ → List (Option ℕ) → ℕ → Bool
is_due now moments slot = has_come now (slice_index_or moments slot None)

-- Rows that are gathered from some slots.
use Rattle.std.specs.Prelude.{◌≡◌, ℕ, ◌<◌, Bool, true, false, List, Option, None, Some, length, nat_eq, slice_index_or}
use Rattle.std.specs.List.{list_any}

-- whether a row is there, and passes
abbrev pub passes_at : {R : Type 0} → (R → Bool) → Option R → Bool
passes_at passes None = false
passes_at passes (Some row) = passes row

-- each row that passes stands at one of these places, of slots in order
abbrev pub CoverRows : {R : Type 0} → (R → Bool) → (ℕ → Option R) → List ℕ → List ℕ → Type 0
CoverRows passes row_of order places = (k : ℕ) → k < length order → passes_at passes (row_of (slice_index_or order k 0)) ≡ true → list_any (nat_eq k) places ≡ true

-- the place of each slot that is among these is among the places
abbrev pub CoverSlots : List ℕ → List ℕ → List ℕ → Type 0
CoverSlots order slots places = (k : ℕ) → k < length order → list_any (nat_eq (slice_index_or order k 0)) slots ≡ true → list_any (nat_eq k) places ≡ true

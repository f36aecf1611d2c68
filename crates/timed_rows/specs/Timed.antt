-- Rows that are to be looked at in their time.
use Rattle.std.specs.Prelude.{◌≡◌, ℕ, ◌≤◌, List, Option, None, Some, length, slice_index_or}
use Rattle.std.specs.declared.cmp.Ordering.{Ordering}
use Rattle.slab.specs.Slab.{Slab, get}
use Rattle.slot_rows.specs.Marks.{IsMarked}
use Rattle.slot_rows.specs.Slots.{IsSlotted}
use Rattle.slot_rows.specs.declared.marks.Marks.{Marks}

-- what gives the moments, and the rows in the order of their keys
pub record TimedRows (K X M : Type 0) : Type 0 where
  pub timing : M
  pub rows : List (K × X)

-- the moment of a slot's row; none where the slot is empty
abbrev pub moment_of : {K X : Type 0} → (X → Option ℕ) → Option (K × X) → Option ℕ
moment_of at None = None
moment_of at (Some row) = at row.1

-- each slot has the moment of its row in the wheel, and no other
abbrev pub AreMoments : {K X : Type 0} → (X → Option ℕ) → Slab (K × X) → List (Option ℕ) → Type 0
AreMoments at slots moments = (slot : ℕ) → slice_index_or moments slot None ≡ moment_of at (get slots slot)

-- The rows are in slots in order, and marked, and each slot's moment is in the wheel, which has room for all slots.
pub record IsTimed {K X : Type 0} (cmp : K → K → Ordering) (most : ℕ) (number : K → ℕ) (at : X → Option ℕ) (slots : Slab (K × X)) (order : List ℕ) (capacity : ℕ) (marks : Marks) (moments : List (Option ℕ)) : Type 0 where
  pub slotted : IsSlotted cmp most slots order capacity
  pub marked : IsMarked number marks slots
  pub room : slots.capacity ≤ length moments
  pub moments_are : AreMoments at slots moments

-- Marks by the numbers of keys: what they say of the slots in which rows are.
use Rattle.std.specs.Prelude.{◌≡◌, ℕ, ◌-◌, ⊤, Bool, true, false, List, Some, bit_and, length, slice_index_or}
use Rattle.std.specs.declared.cmp.Ordering.{Ordering}
use Rattle.slab.specs.Slab.{Slab, get}
use Rattle.slot_rows.specs.Slots.{IsSlotted}
use Rattle.slot_rows.specs.declared.marks.Mark.{Mark}
use Rattle.slot_rows.specs.declared.marks.Mark.TheVariants.{Free, Sole, Shared}
use Rattle.slot_rows.specs.declared.marks.Marks.{Marks}

-- the place of a number among so many
abbrev pub mark_place : ℕ → ℕ → ℕ
mark_place number count = bit_and number (count - 1)

-- the mark of a number; where there is none, it says nothing
abbrev pub mark_of : Marks → ℕ → Mark
mark_of marks number = slice_index_or marks.by_place.items (mark_place number (length marks.by_place.items)) (Shared 0)

-- by the mark, this slot may have such a row
abbrev pub Admits : Mark → ℕ → Type 0
Admits Free slot = ⊥
Admits (Sole sole) slot = sole ≡ slot
Admits (Shared other) slot = ⊤

-- by the mark, several slots may have such a row
abbrev pub is_shared : Mark → Bool
is_shared Free = false
is_shared (Sole sole) = false
is_shared (Shared other) = true

-- by the mark of its key's number, the slot of each row may have it
abbrev pub IsMarked : {K X : Type 0} → (K → ℕ) → Marks → Slab (K × X) → Type 0
IsMarked {K} {X} number marks slots = (slot : ℕ) (row : K × X) → get slots slot ≡ Some row → Admits (mark_of marks (number row.0)) slot

-- The rows are in slots in order, and marked.
pub record IsKept {K X : Type 0} (cmp : K → K → Ordering) (most : ℕ) (number : K → ℕ) (slots : Slab (K × X)) (order : List ℕ) (capacity : ℕ) (marks : Marks) : Type 0 where
  pub slotted : IsSlotted cmp most slots order capacity
  pub marked : IsMarked number marks slots

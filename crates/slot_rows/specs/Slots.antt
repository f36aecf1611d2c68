-- Rows in slots, and the slots in the order of the rows' keys.
use Rattle.std.specs.Prelude.{◌≡◌, ℕ, ◌≤◌, List, T, Some, filter_map, length, map}
use Rattle.std.specs.FinMap.Entries.{is_sorted}
use Rattle.std.specs.declared.cmp.Ordering.{Ordering}
use Rattle.slab.specs.Slab.{Slab, get, slab_len}

-- the rows of slots, in the order in which the slots are named
abbrev pub rows_of : {R : Type 0} → Slab R → List ℕ → List R
rows_of slots order = filter_map (get slots) order

-- each slot that is named has a row
abbrev pub AreFilled : {R : Type 0} → Slab R → List ℕ → Type 0
AreFilled slots order = map (get slots) order ≡ map Some (rows_of slots order)

-- The slots that are named have a row each, in the order of the keys, and no other slot has one. There are not more
-- than the most, and there is room for so many. The number of a slot fits in two bytes.
pub record IsSlotted {K X : Type 0} (cmp : K → K → Ordering) (most : ℕ) (slots : Slab (K × X)) (order : List ℕ) (capacity : ℕ) : Type 0 where
  pub filled : AreFilled slots order
  pub in_order : T (is_sorted cmp (rows_of slots order))
  pub used : slab_len slots ≡ length order
  pub few : length order ≤ most
  pub slots_room : most ≤ slots.capacity
  pub index_room : most ≤ capacity
  pub numbered : slots.capacity ≤ 65536

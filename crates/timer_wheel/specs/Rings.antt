-- Rings of nodes: each node has the node after it in its ring, and the one before it.
use Rattle.std.specs.Prelude.{ℕ, ◌≡◌, ◌≢◌, ◌<◌, List, [], ◌∷◌, true, length, nat_eq, slice_index}
use Rattle.std.specs.List.{IsDistinct, list_any}

-- What stands after a node has that node before it, and the other way round.
pub record AreRings (after before : List ℕ) : Type 0 where
  pub same_nodes : length before ≡ length after
  pub after_in : (x : ℕ) → x < length after → slice_index after x < length after
  pub before_in : (x : ℕ) → x < length after → slice_index before x < length after
  pub back : (x : ℕ) → x < length after → slice_index before (slice_index after x) ≡ x
  pub forth : (x : ℕ) → x < length after → slice_index after (slice_index before x) ≡ x

-- From `at` on, `after` leads over these slots in their order, and then to the head.
abbrev pub Leads : List ℕ → ℕ → List ℕ → ℕ → Type 0
Leads after head [] at = at ≡ head
Leads after head (slot ∷ slots) at = (at ≡ slot) × (slot ≢ head) × Leads after head slots (slice_index after slot)

-- The ring of a head has these slots and no others, each once and below the bound.
pub record IsRing (after : List ℕ) (bound head : ℕ) (slots : List ℕ) : Type 0 where
  pub leads : Leads after head slots (slice_index after head)
  pub below : (slot : ℕ) → list_any (nat_eq slot) slots ≡ true → slot < bound
  pub once : IsDistinct nat_eq slots

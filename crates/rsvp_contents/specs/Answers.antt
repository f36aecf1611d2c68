-- What a reader of datagrams answers, in terms of a relation that says which bytes spell which value and of
-- one that says which fault is the first of bytes that spell none.
use Rattle.std.specs.Prelude.{◌≡◌, ℕ, List, Result, Ok, Err}
use Rattle.rsvp_contents.specs.declared.dropped.Dropped.{Dropped}
use Rattle.rsvp_contents.specs.declared.dropped.Dropped.TheVariants as dropped

-- The answer is this value, or there was no memory for it.
abbrev pub Tells : {X : Type 0} → Result X Dropped → X → Type 0
Tells (Ok answer) x = answer ≡ x
Tells (Err dropped.NoMemory) x = Unit {0}
Tells (Err _) x = ⊥

-- The value is spelled by the bytes, and a fault is their first.
abbrev pub IsTold : {X : Type 0} → (List ℕ → X → Type 0) → (List ℕ → Dropped → Type 0) → List ℕ → Result X Dropped → Type 0
IsTold Spells IsFirst bytes (Ok x) = Spells bytes x
IsTold Spells IsFirst bytes (Err dropped.NoMemory) = Unit {0}
IsTold Spells IsFirst bytes (Err fault) = IsFirst bytes fault

-- The answer is the value that the bytes spell, or their first fault where they spell none. Out of memory
-- can come in place of any answer.
pub record ReadsOrDrops {X : Type 0} (Spells : List ℕ → X → Type 0) (IsFirst : List ℕ → Dropped → Type 0) (bytes : List ℕ) (answer : Result X Dropped) : Type 0 where
  pub told : IsTold Spells IsFirst bytes answer
  pub only : (x : X) → Spells bytes x → Tells answer x

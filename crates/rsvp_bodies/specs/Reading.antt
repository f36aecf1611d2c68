-- What a reader answers, in terms of a relation that says which bytes spell which value.
use Rattle.std.specs.Prelude.{◌≡◌, ◌≤◌, ◌++◌, ℕ, List, [], ◌∷◌, length, take, Result, Ok, Err, IfOk}
use Rattle.rsvp_bodies.specs.declared.fault.ObjectFault.{ObjectFault}
use Rattle.rsvp_bodies.specs.declared.fault.ObjectFault.TheVariants.{Length, Memory}

-- The answer is this one, or there was no memory for it.
abbrev pub Gives : {X : Type 0} → Result X ObjectFault → X → Type 0
Gives (Ok answer) x = answer ≡ x
Gives (Err Memory) x = Unit {0}
Gives (Err Length) x = ⊥

-- The answer is what the whole of the bytes spells. Where they spell nothing it is the fault Length;
-- out of memory can come in place of any answer.
pub record ReadsWhole {X : Type 0} (Spells : List ℕ → X → Type 0) (bytes : List ℕ) (answer : Result X ObjectFault) : Type 0 where
  pub found : IfOk answer (λ x. Spells bytes x)
  pub only : (x : X) → Spells bytes x → Gives answer x

-- The answer is what the first bytes spell, and how many they are.
pub record ReadsFirst {X : Type 0} (Spells : List ℕ → X → Type 0) (bytes : List ℕ) (answer : Result (X × ℕ) ObjectFault) : Type 0 where
  pub within : IfOk answer (λ r. r.1 ≤ length bytes)
  pub found : IfOk answer (λ r. Spells (take r.1 bytes) r.0)
  pub only : (x : X) (n : ℕ) → n ≤ length bytes → Spells (take n bytes) x → Gives answer (x, n)

-- The bytes spell the list: they are the spellings of its members, one behind the other.
abbrev pub SpellsEach : {X : Type 0} → (List ℕ → X → Type 0) → List ℕ → List X → Type 0
SpellsEach Spells bytes [] = bytes ≡ []
SpellsEach Spells bytes (x ∷ xs) =
    (first : List ℕ) × (rest : List ℕ) × (bytes ≡ first ++ rest) × Spells first x × SpellsEach Spells rest xs

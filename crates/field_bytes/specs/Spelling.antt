-- Which bytes spell a value, and what a reader answers.
use Rattle.std.specs.Prelude.{◌≡◌, ◌<◌, ◌^◌, ℕ, List, ◌++◌, length, Result, Ok, Err}
use Rattle.std.specs.Borrow.{Bor}
use Rattle.std.specs.Int.{to_be_bytes, w32}
use Rattle.std.specs.List.{AllByRecursion, flat_map}
use Rattle.field_bytes.specs.declared.fault.ReadFault.{ReadFault}
use Rattle.field_bytes.specs.declared.fault.ReadFault.TheVariants as faults

-- A value with its spelling at the head of the bytes, and the bytes behind it; or Format exactly where no value has its spelling there.
abbrev pub Answers : {V : Type 0} → (V → Type 0) → (V → List ℕ) → List ℕ → Result (V × Bor (List ℕ)) ReadFault → Type 0
Answers Fits spelling bytes (Ok read) = (bytes ≡ spelling read.0 ++ read.1.now) × Fits read.0
Answers {V = V} Fits spelling bytes (Err faults.Format) = (value : V) (rest : List ℕ) → Fits value → bytes ≡ spelling value ++ rest → ⊥
Answers Fits spelling bytes (Err faults.Memory) = Unit {0}

-- No bytes begin with the spellings of two values.
abbrev pub IsOne : {V : Type 0} → (V → Type 0) → (V → List ℕ) → Type 0
IsOne {V = V} Fits spelling = (x y : V) (r s : List ℕ) → Fits x → Fits y → spelling x ++ r ≡ spelling y ++ s → (x ≡ y) × (r ≡ s)

-- bytes, and before them how many they are, in 4 bytes
abbrev pub octet_bytes : List ℕ → List ℕ
octet_bytes bytes = to_be_bytes w32 (length bytes) ++ bytes

-- so many can be counted
abbrev pub IsCountable : {X : Type 0} → List X → Type 0
IsCountable xs = length xs < 2 ^ 32

-- A list: how many items it has, in 4 bytes, and the items.
abbrev pub list_bytes : {V : Type 0} → (V → List ℕ) → List V → List ℕ
list_bytes spelling items = to_be_bytes w32 (length items) ++ flat_map spelling items

-- each item has a spelling, and they can be counted
abbrev pub ListFits : {V : Type 0} → (V → Type 0) → List V → Type 0
ListFits Fits items = IsCountable items × AllByRecursion Fits items

-- so many items
abbrev pub ItemsFit : {V : Type 0} → ℕ → (V → Type 0) → List V → Type 0
ItemsFit count Fits items = (length items ≡ count) × AllByRecursion Fits items

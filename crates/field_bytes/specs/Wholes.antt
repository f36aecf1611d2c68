-- Values that take all the bytes.
use Rattle.std.specs.Prelude.{◌≡◌, ℕ, List, Result, Ok, Err}
use Rattle.field_bytes.specs.declared.fault.ReadFault.{ReadFault}
use Rattle.field_bytes.specs.declared.fault.ReadFault.TheVariants as faults

-- All the bytes spell the value, and no other one; or Format exactly where they spell none.
abbrev pub ReadsWhole : {V : Type 0} → (V → Type 0) → (V → List ℕ) → List ℕ → Result V ReadFault → Type 0
ReadsWhole {V = V} Fits spelling bytes (Ok value) = (bytes ≡ spelling value) × Fits value × ((other : V) → Fits other → bytes ≡ spelling other → other ≡ value)
ReadsWhole {V = V} Fits spelling bytes (Err faults.Format) = (value : V) → Fits value → bytes ≡ spelling value → ⊥
ReadsWhole Fits spelling bytes (Err faults.Memory) = Unit {0}

-- A reader whose value is put into a variant of another type.
use Rattle.std.proofs.Common.{◌≡◌, ℕ, List, Result, Ok, Err, IsOkAnd, MatchResult, sym, ap, ◌∙◌}
use Rattle.rsvp_bodies.specs.declared.fault.ObjectFault.{ObjectFault}
use Rattle.rsvp_bodies.specs.declared.fault.ObjectFault.TheVariants.{Length, Memory}
use Rattle.rsvp_bodies.specs.Reading.{ReadsWhole}

-- what spells a value spells what f makes of it
abbrev pub SpellsBy : {X Y : Type 0} → (List ℕ → X → Type 0) → (X → Y) → List ℕ → Y → Type 0
SpellsBy {X = X} Spells f bytes y = (x : X) × Spells bytes x × (y ≡ f x)

-- the reader's answer, with f on its value, is read so
pub reads_mapped : {X Y : Type 0} (Spells : List ℕ → X → Type 0) (f : X → Y) (bytes : List ℕ) (read : Result X ObjectFault) (made : Result Y ObjectFault) →
    MatchResult read (λ x. IsOkAnd made (λ y. y ≡ f x)) (λ e. made ≡ Err e) → ReadsWhole Spells bytes read → ReadsWhole (SpellsBy Spells f) bytes made
reads_mapped Spells f bytes (Ok x) (Ok y) m h =
    record { found = (x, h.found, m); only = λ z w. m ∙ ap f (h.only w.0 w.1) ∙ sym w.2 }
reads_mapped Spells f bytes (Ok x) (Err e) m h = absurd m
reads_mapped Spells f bytes (Err Memory) (Ok y) m h = absurd cc
reads_mapped Spells f bytes (Err Memory) (Err Memory) m h = record { found = tt; only = λ _ _. tt }
reads_mapped Spells f bytes (Err Memory) (Err Length) m h = absurd cc
reads_mapped Spells f bytes (Err Length) (Ok y) m h = absurd cc
reads_mapped Spells f bytes (Err Length) (Err Memory) m h = absurd cc
reads_mapped Spells f bytes (Err Length) (Err Length) m h = record { found = tt; only = λ y w. h.only w.0 w.1 }

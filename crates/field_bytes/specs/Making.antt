-- What is spelled by its parts.
use Rattle.std.specs.Prelude.{◌≡◌, ◌++◌, List, ℕ, Result, Ok, Err}
use Rattle.std.proofs.Common.{ap, sym, ◌∙◌}
use Rattle.field_bytes.specs.Spelling.{Answers, IsOne}
use Rattle.field_bytes.specs.declared.fault.ReadFault.{ReadFault}
use Rattle.field_bytes.specs.declared.fault.ReadFault.TheVariants as faults

-- What has these parts; or Format exactly where nothing has them.
abbrev pub Makes : {W P : Type 0} → (W → Type 0) → (W → P) → P → Result W ReadFault → Type 0
Makes Allows back parts (Ok whole) = (back whole ≡ parts) × Allows whole
Makes {W = W} Allows back parts (Err faults.Format) = (whole : W) → Allows whole → back whole ≡ parts → ⊥
Makes Allows back parts (Err faults.Memory) = Unit {0}

-- no parts are those of two
abbrev pub IsToldApart : {W P : Type 0} → (W → Type 0) → (W → P) → Type 0
IsToldApart {W = W} Allows back = (x y : W) → Allows x → Allows y → back x ≡ back y → x ≡ y

-- it can be made, and its parts have a spelling
abbrev pub MadeFits : {W P : Type 0} → (W → Type 0) → (W → P) → (P → Type 0) → W → Type 0
MadeFits Allows back Fits whole = Allows whole × Fits (back whole)

-- it is spelled as its parts are
abbrev pub IsSpelledBy : {W P : Type 0} → (W → P) → (W → List ℕ) → (P → List ℕ) → Type 0
IsSpelledBy {W = W} back whole_bytes part_bytes = (x : W) → whole_bytes x ≡ part_bytes (back x)

pub one_made : {W P : Type 0} (Allows : W → Type 0) (back : W → P) (whole_bytes : W → List ℕ) (Fits : P → Type 0) (part_bytes : P → List ℕ) →
    IsToldApart Allows back → IsSpelledBy back whole_bytes part_bytes → IsOne Fits part_bytes → IsOne (MadeFits Allows back Fits) whole_bytes
one_made Allows back whole_bytes Fits part_bytes told spelled own x y r s p q e =
    let parts = own (back x) (back y) r s p.1 q.1 (sym (ap (λ (v : List ℕ). v ++ r) (spelled x)) ∙ (e ∙ ap (λ (v : List ℕ). v ++ s) (spelled y))) in
    (told x y p.0 q.0 parts.0, parts.1)

-- What is made of parts that were read was read; and where parts can't be made, or weren't read, nothing is spelled.
pub made_read : {W P : Type 0} (Allows : W → Type 0) (back : W → P) (whole_bytes : W → List ℕ) (Fits : P → Type 0) (part_bytes : P → List ℕ) →
    IsSpelledBy back whole_bytes part_bytes → (bytes rest : List ℕ) (parts : P) (whole : W) → bytes ≡ part_bytes parts ++ rest → back whole ≡ parts → bytes ≡ whole_bytes whole ++ rest
made_read Allows back whole_bytes Fits part_bytes spelled bytes rest parts whole e same =
    e ∙ ap (λ (v : List ℕ). v ++ rest) (sym (spelled whole ∙ ap part_bytes same))

pub parts_unread : {W P : Type 0} (Allows : W → Type 0) (back : W → P) (whole_bytes : W → List ℕ) (Fits : P → Type 0) (part_bytes : P → List ℕ) →
    IsSpelledBy back whole_bytes part_bytes → (bytes : List ℕ) (fault : ReadFault) → Answers Fits part_bytes bytes (Err fault) → Answers (MadeFits Allows back Fits) whole_bytes bytes (Err fault)
parts_unread Allows back whole_bytes Fits part_bytes spelled bytes faults.Memory none = tt
parts_unread Allows back whole_bytes Fits part_bytes spelled bytes faults.Format none = λ whole rest fits e.
    none (back whole) rest fits.1 (e ∙ ap (λ (v : List ℕ). v ++ rest) (spelled whole))

pub not_made : {W P : Type 0} (Allows : W → Type 0) (back : W → P) (whole_bytes : W → List ℕ) (Fits : P → Type 0) (part_bytes : P → List ℕ) →
    IsSpelledBy back whole_bytes part_bytes → IsOne Fits part_bytes → (bytes rest : List ℕ) (parts : P) (fault : ReadFault) → bytes ≡ part_bytes parts ++ rest → Fits parts →
    Makes Allows back parts (Err fault) → Answers (MadeFits Allows back Fits) whole_bytes bytes (Err fault)
not_made Allows back whole_bytes Fits part_bytes spelled own bytes rest parts faults.Memory e fit none = tt
not_made Allows back whole_bytes Fits part_bytes spelled own bytes rest parts faults.Format e fit none = λ whole behind fits is.
    let same = own (back whole) parts behind rest fits.1 fit (sym (ap (λ (v : List ℕ). v ++ behind) (spelled whole)) ∙ (sym is ∙ e)) in
    none whole fits.0 same.0

-- what can be made again from its parts is told apart by them
pub told_by : {W P : Type 0} (Allows : W → Type 0) (back : W → P) (again : P → W) → ((x : W) → again (back x) ≡ x) → IsToldApart Allows back
told_by Allows back again same x y _ _ e = sym (same x) ∙ (ap again e ∙ same y)

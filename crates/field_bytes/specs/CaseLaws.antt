-- Values of several kinds.
use Rattle.std.specs.Prelude.{◌≡◌, ◌<◌, ◌+◌, ◌++◌, List, ◌∷◌, ℕ, Result, Ok, Err}
use Rattle.std.specs.Borrow.{Bor}
use Rattle.std.proofs.Common.{ap, drop, get_or, arith}
use Rattle.field_bytes.specs.Spelling.{IsOne}
use Rattle.field_bytes.specs.declared.fault.ReadFault.{ReadFault}
use Rattle.field_bytes.specs.declared.fault.ReadFault.TheVariants as faults
use Rattle.field_bytes.specs.declared.cases.OneOf.{OneOf}
use Rattle.field_bytes.specs.declared.cases.OneOf.TheVariants.{This, Other}

-- A value of this kind at the head of the bytes, and the bytes behind it; or Format exactly where none has its spelling there.
abbrev pub AnswersCase : {V : Type 0} → (V → Type 0) → (V → ℕ) → (V → List ℕ) → ℕ → List ℕ → Result (V × Bor (List ℕ)) ReadFault → Type 0
AnswersCase Fits tag fields kind bytes (Ok read) = (tag read.0 ≡ kind) × (bytes ≡ fields read.0 ++ read.1.now) × Fits read.0
AnswersCase {V = V} Fits tag fields kind bytes (Err faults.Format) = (value : V) (rest : List ℕ) → Fits value → tag value ≡ kind → bytes ≡ fields value ++ rest → ⊥
AnswersCase Fits tag fields kind bytes (Err faults.Memory) = Unit {0}

-- no bytes begin with the spellings of two values of one kind
abbrev pub IsOneCase : {V : Type 0} → (V → Type 0) → (V → ℕ) → (V → List ℕ) → Type 0
IsOneCase {V = V} Fits tag fields = (x y : V) (r s : List ℕ) → Fits x → Fits y → tag x ≡ tag y → fields x ++ r ≡ fields y ++ s → (x ≡ y) × (r ≡ s)

-- the number of the only kind
abbrev pub no_tag : {V : Type 0} → V → ℕ
no_tag x = 0

pub one_only : {V : Type 0} (Fits : V → Type 0) (spelling : V → List ℕ) → IsOne Fits spelling → IsOneCase Fits no_tag spelling
one_only Fits spelling own x y r s p q _ e = own x y r s p q e

-- the one that is there has a spelling, and those of the first kinds are of so many
abbrev pub BothFit : {A B : Type 0} → ℕ → (A → ℕ) → (A → Type 0) → (B → Type 0) → OneOf A B → Type 0
BothFit count tag First Second (This x) = (tag x < count) × First x
BothFit count tag First Second (Other y) = Second y

-- the first kinds, and behind them the others
abbrev pub both_tag : {A B : Type 0} → ℕ → (A → ℕ) → (B → ℕ) → OneOf A B → ℕ
both_tag count first second (This x) = first x
both_tag count first second (Other y) = count + second y

-- what stands behind the kind's number
abbrev pub both_fields : {A B : Type 0} → (A → List ℕ) → (B → List ℕ) → OneOf A B → List ℕ
both_fields first second (This x) = first x
both_fields first second (Other y) = second y

pub one_both : {A B : Type 0} (count : ℕ) (First : A → Type 0) (Second : B → Type 0) (first_tag : A → ℕ) (second_tag : B → ℕ) (first : A → List ℕ) (second : B → List ℕ) →
    IsOneCase First first_tag first → IsOneCase Second second_tag second → IsOneCase (BothFit count first_tag First Second) (both_tag count first_tag second_tag) (both_fields first second)
one_both count First Second first_tag second_tag first second a b (This x) (This y) r s p q k e =
    let parts = a x y r s p.1 q.1 k e in
    (ap This parts.0, parts.1)
one_both count First Second first_tag second_tag first second a b (This x) (Other y) r s p q k e = absurd (omega (arith, p.0, k))
one_both count First Second first_tag second_tag first second a b (Other x) (This y) r s p q k e = absurd (omega (arith, q.0, k))
one_both count First Second first_tag second_tag first second a b (Other x) (Other y) r s p q k e =
    let same : second_tag x ≡ second_tag y = omega (arith, k) in
    let parts = b x y r s p q same e in
    (ap Other parts.0, parts.1)

-- the number of the kind, counted from the first, and the value
abbrev pub choice_bytes : {V : Type 0} → ℕ → (V → ℕ) → (V → List ℕ) → V → List ℕ
choice_bytes first tag fields x = (first + tag x) ∷ fields x

pub one_choice : {V : Type 0} (first : ℕ) (Fits : V → Type 0) (tag : V → ℕ) (fields : V → List ℕ) → IsOneCase Fits tag fields → IsOne Fits (choice_bytes first tag fields)
one_choice first Fits tag fields own x y r s p q e =
    let kinds : first + tag x ≡ first + tag y = ap (λ (v : List ℕ). get_or v 0 0) e in
    let same : tag x ≡ tag y = omega (arith, kinds) in
    own x y r s p q same (ap (drop 1) e)

-- The bytes that spell a value, kept as they stand.
use Rattle.std.specs.Prelude.{◌≡◌, ◌++◌, ◌+◌, ◌-◌, ◌≤◌, List, ℕ, length, Err}
use Rattle.std.proofs.Common.{sym, ◌∙◌, ap, take, drop, arith}
use Rattle.std.proofs.lemmas.List.{length-append}
use Rattle.std.proofs.Math.Seq.{drop-append_seam, take-append_seam}
use Rattle.field_bytes.specs.Spelling.{Answers, IsOne}
use Rattle.field_bytes.specs.declared.fault.ReadFault.{ReadFault}
use Rattle.field_bytes.specs.declared.fault.ReadFault.TheVariants as faults

-- the bytes spell a value
abbrev pub IsText : {A : Type 0} → (A → Type 0) → (A → List ℕ) → List ℕ → Type 0
IsText {A = A} Fits spelling bytes = (value : A) × (bytes ≡ spelling value) × Fits value

pub one_text : {A : Type 0} (Fits : A → Type 0) (spelling : A → List ℕ) → IsOne Fits spelling → IsOne (IsText Fits spelling) (λ bytes. bytes)
one_text Fits spelling own x y r s p q e =
    let same = own p.0 q.0 r s p.2 q.2 (sym (ap (λ (v : List ℕ). v ++ r) p.1) ∙ (e ∙ ap (λ (v : List ℕ). v ++ s) q.1)) in
    (p.1 ∙ (ap spelling same.0 ∙ sym q.1), same.1)

-- where no value is spelled no text is
pub no_text : {A : Type 0} (Fits : A → Type 0) (spelling : A → List ℕ) (bytes : List ℕ) (fault : ReadFault) → Answers Fits spelling bytes (Err fault) →
    Answers (IsText Fits spelling) (λ text. text) bytes (Err fault)
no_text Fits spelling bytes faults.Memory none = tt
no_text Fits spelling bytes faults.Format none = λ text rest is e. none is.0 rest is.2 (e ∙ ap (λ (v : List ℕ). v ++ rest) is.1)

-- what stands before the rest, and the rest
pub cut_off : (bytes head rest : List ℕ) → bytes ≡ head ++ rest → (length rest ≤ length bytes) × (take (length bytes - length rest) bytes ≡ head) × (drop (length bytes - length rest) bytes ≡ rest)
cut_off bytes head rest e =
    let sum : length bytes ≡ length head + length rest = ap length e ∙ length-append head rest in
    let place : length bytes - length rest ≡ length head = omega (arith, sum) in (
      omega (arith, sum),
      (λ i. take (place i) (e i)) ∙ take-append_seam head rest,
      (λ i. drop (place i) (e i)) ∙ drop-append_seam head rest,
    )

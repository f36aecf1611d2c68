-- What takes all the bytes.
use Rattle.std.proofs.Common.{◌≡◌, ◌<◌, ◌++◌, ◌==◌, ◌∷◌, [], ℕ, Bool, T, true, false, List, length, Ok, Err, refl, sym, ap, subst, ◌∙◌, arith, append-nil, eqb→eq}
use Rattle.field_bytes.specs.Spelling.{Answers, IsOne}
use Rattle.field_bytes.specs.declared.fault.ReadFault.{ReadFault}
use Rattle.field_bytes.specs.declared.fault.ReadFault.TheVariants as faults
use Rattle.field_bytes.specs.Wholes.{ReadsWhole}

-- where nothing stands at the head of the bytes they spell nothing
pub whole_unread : {V : Type 0} (Fits : V → Type 0) (spelling : V → List ℕ) (bytes : List ℕ) (fault : ReadFault) → Answers Fits spelling bytes (Err fault) → ReadsWhole Fits spelling bytes (Err fault)
whole_unread Fits spelling bytes faults.Memory none = tt
whole_unread Fits spelling bytes faults.Format none = λ value fits e. none value [] fits (e ∙ sym (append-nil (spelling value)))

some_left : (rest : List ℕ) → (length rest == 0) ≡ false → 0 < length rest
some_left [] e = cc
some_left (x ∷ xs) e = omega arith

-- nor where something follows what does
pub whole_before : {V : Type 0} (Fits : V → Type 0) (spelling : V → List ℕ) → IsOne Fits spelling → (bytes rest : List ℕ) (value : V) → Fits value → bytes ≡ spelling value ++ rest → (length rest == 0) ≡ false → ReadsWhole Fits spelling bytes (Err faults.Format)
whole_before Fits spelling own bytes rest value fit e some = λ other fits same.
    let none = (own value other rest [] fit fits (sym e ∙ (same ∙ sym (append-nil (spelling other))))).1 in
    let zero : length rest ≡ 0 = ap length none in
    let more = some_left rest some in
    absurd (omega (arith, zero, more))

none_left : (rest : List ℕ) → (length rest == 0) ≡ true → rest ≡ []
none_left [] e = refl
none_left (x ∷ xs) e =
    let P : Bool → Type 0 = λ b. T b in
    let h : length (x ∷ xs) ≡ 0 = eqb→eq (length (x ∷ xs)) 0 (subst P (sym e) tt) in
    absurd (omega (arith, h))

-- and where nothing does they spell it, and nothing else
pub whole_read : {V : Type 0} (Fits : V → Type 0) (spelling : V → List ℕ) → IsOne Fits spelling → (bytes rest : List ℕ) (value : V) → Fits value → bytes ≡ spelling value ++ rest → (length rest == 0) ≡ true → ReadsWhole Fits spelling bytes (Ok value)
whole_read Fits spelling own bytes rest value fit e none =
    let whole : bytes ≡ spelling value = e ∙ (ap (λ (v : List ℕ). spelling value ++ v) (none_left rest none) ∙ append-nil (spelling value)) in (
      whole,
      fit,
      λ other fits same. (own other value [] [] fits fit (ap (λ (v : List ℕ). v ++ []) (sym same ∙ whole))).0,
    )

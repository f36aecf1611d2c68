-- What may be absent.
use Rattle.std.specs.Prelude.{◌≡◌, List, [], ◌∷◌, ℕ, Option, Some, None, refl}
use Rattle.std.proofs.Common.{ap, drop, get_or, arith}
use Rattle.field_bytes.specs.Spelling.{IsOne}

-- what is there has a spelling
abbrev pub OptionFits : {A : Type 0} → (A → Type 0) → Option A → Type 0
OptionFits Fits None = Unit {0}
OptionFits Fits (Some x) = Fits x

-- 0 where it is absent; or 1, and what is there
abbrev pub option_bytes : {A : Type 0} → (A → List ℕ) → Option A → List ℕ
option_bytes spelling None = 0 ∷ []
option_bytes spelling (Some x) = 1 ∷ spelling x

pub one_option : {A : Type 0} (Fits : A → Type 0) (spelling : A → List ℕ) → IsOne Fits spelling → IsOne (OptionFits Fits) (option_bytes spelling)
one_option Fits spelling own None None r s p q e = (refl, ap (drop 1) e)
one_option Fits spelling own None (Some y) r s p q e = let h : 0 ≡ 1 = ap (λ (v : List ℕ). get_or v 0 0) e in absurd (omega (arith, h))
one_option Fits spelling own (Some x) None r s p q e = let h : 1 ≡ 0 = ap (λ (v : List ℕ). get_or v 0 0) e in absurd (omega (arith, h))
one_option Fits spelling own (Some x) (Some y) r s p q e =
    let parts = own x y r s p q (ap (drop 1) e) in
    (ap Some parts.0, parts.1)

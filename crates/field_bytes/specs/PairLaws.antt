-- A field, and another one behind it.
use Rattle.std.specs.Prelude.{◌++◌, List, ℕ}
use Rattle.std.proofs.Common.{sym, ◌∙◌, append_assoc}
use Rattle.field_bytes.specs.Spelling.{IsOne}

-- both have a spelling
abbrev pub PairFits : {A B : Type 0} → (A → Type 0) → (B → Type 0) → A × B → Type 0
PairFits First Second x = First x.0 × Second x.1

-- one behind the other
abbrev pub pair_bytes : {A B : Type 0} → (A → List ℕ) → (B → List ℕ) → A × B → List ℕ
pair_bytes first second x = first x.0 ++ second x.1

pub one_pair : {A B : Type 0} (First : A → Type 0) (Second : B → Type 0) (first : A → List ℕ) (second : B → List ℕ) →
    IsOne First first → IsOne Second second → IsOne (PairFits First Second) (pair_bytes first second)
one_pair First Second first second a b x y r s p q e =
    let firsts = a x.0 y.0 (second x.1 ++ r) (second y.1 ++ s) p.0 q.0 (sym (append_assoc (first x.0) (second x.1) r) ∙ (e ∙ append_assoc (first y.0) (second y.1) s)) in
    let seconds = b x.1 y.1 r s p.1 q.1 firsts.1 in
    ((λ i. (firsts.0 i, seconds.0 i)), seconds.1)

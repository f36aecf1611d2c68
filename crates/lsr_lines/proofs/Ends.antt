-- Two blanks in a row.
use Rattle.std.proofs.Common.{◌≡◌, ℕ, List, [], ◌∷◌, ◌++◌, Bool, true, false, ◌&&◌, None, MatchBool, ap, ap₂, ◌∙◌, codes, eqb-true, nat_eq, refl, ⊎_elim}
use Rattle.std.proofs.lemmas.Bool.{and_parts, false_from_ne_true, false≢true, or_cases, or_right}
use Rattle.std.proofs.lemmas.Str.Pattern.{contains_text}
use Rattle.std.specs.Str.Iter.{HasSubslice}
use Rattle.std.specs.Str.Pattern.{FindsText, HasMatch}
use Rattle.lsr_lines.specs.Forms.{has_two_blanks}

-- a byte before them
two_after : (byte : ℕ) (line : List ℕ) → has_two_blanks line ≡ true → has_two_blanks (byte ∷ line) ≡ true
unfolding has_two_blanks
two_after byte [] e = e
two_after byte (next ∷ rest) e = or_right (nat_eq byte 32 && nat_eq next 32) (has_two_blanks (next ∷ rest)) e

two_between : (first second : List ℕ) → has_two_blanks (first ++ (codes "  " ++ second)) ≡ true
unfolding has_two_blanks
two_between [] second = refl
two_between (byte ∷ first) second = two_after byte (first ++ (codes "  " ++ second)) (two_between first second)

-- they stand at the beginning
here : (byte next : ℕ) (rest : List ℕ) → (nat_eq byte 32 && nat_eq next 32) ≡ true → HasSubslice (byte ∷ next ∷ rest) (codes "  ")
here byte next rest e =
    let both = and_parts (nat_eq byte 32) (nat_eq next 32) e in
    ([], rest, ap₂ (λ a b. a ∷ b ∷ rest) (eqb-true byte 32 both.0) (eqb-true next 32 both.1))

-- or after the first byte
later : (byte : ℕ) (line : List ℕ) → HasSubslice line (codes "  ") → HasSubslice (byte ∷ line) (codes "  ")
later byte line h = (byte ∷ h.0, h.1, ap (λ l. byte ∷ l) h.2)

two_parts : (line : List ℕ) → has_two_blanks line ≡ true → HasSubslice line (codes "  ")
unfolding has_two_blanks
two_parts [] e = absurd (false≢true e)
two_parts (byte ∷ []) e = absurd (false≢true e)
two_parts (byte ∷ next ∷ rest) e =
    ⊎_elim (here byte next rest) (λ f. later byte (next ∷ rest) (two_parts (next ∷ rest) f))
    (or_cases (nat_eq byte 32 && nat_eq next 32) (has_two_blanks (next ∷ rest)) e)

-- a line contains two blanks just where they stand in a row
pub two_blanks : (r : Bool) (line : List ℕ) → MatchBool r (HasMatch (FindsText (codes "  ")) line) (FindsText (codes "  ") line None) → has_two_blanks line ≡ r
two_blanks true line h =
    let parts = (contains_text true (codes "  ") line h).0 refl in
    ap has_two_blanks parts.2 ∙ two_between parts.0 parts.1
two_blanks false line h = false_from_ne_true (has_two_blanks line) (λ e. false≢true ((contains_text false (codes "  ") line h).1 (two_parts line e)))

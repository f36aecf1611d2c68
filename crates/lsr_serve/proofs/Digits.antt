-- What `parse` makes of digits.
use Rattle.std.proofs.Common.{◌≡◌, ◌≢◌, ◌<◌, ◌≤◌, ◌^◌, ℕ, List, [], ◌∷◌, Result, Err, true, arith, get_or, length}
use Rattle.std.specs.Result.{OkIff}
use Rattle.std.specs.Str.{all_ascii_digits}
use Rattle.std.specs.Str.Parse.{digits_value, ParsesUnsigned}
use Rattle.std.proofs.lemmas.Str.Parse.{IsNumeralModel, numerals_by_value, tells_all_ascii_digits, parse_plain}
use Rattle.lsr_serve.specs.Turns.{SpellsTurns}

numerals : IsNumeralModel (λ ds. all_ascii_digits ds ≡ true) (digits_value 10)
numerals = numerals_by_value _ tells_all_ascii_digits

-- it takes digits that begin with no sign
pub digits_parsed : {E : Type 0} (width : ℕ) (digits : List ℕ) (r : Result ℕ E) → get_or digits 0 0 ≢ 43 → ParsesUnsigned width 10 digits r → OkIff r ((all_ascii_digits digits ≡ true) × (0 < length digits) × (digits_value 10 digits < 2 ^ width)) (digits_value 10 digits)
digits_parsed width digits r plain h = parse_plain numerals width digits r h plain

pub no_sign : (digits : List ℕ) → all_ascii_digits digits ≡ true → get_or digits 0 0 ≡ 43 → ⊥
no_sign [] h e = absurd (omega (arith, e))
no_sign (d ∷ ds) h e = let p = tells_all_ascii_digits.parts d ds h in absurd (omega (arith, p.0.0, p.0.1, e))

digits_some : (digits : List ℕ) → 1 ≤ digits_value 10 digits → 0 < length digits
digits_some [] h = absurd (omega (arith, h))
digits_some (d ∷ ds) h = omega arith

-- what it doesn't take spells no number of turns
pub no_turns : {E : Type 0} (digits : List ℕ) (e : E) (turns : ℕ) → get_or digits 0 0 ≢ 43 → ParsesUnsigned 32 10 digits (Err e) → SpellsTurns digits turns → ⊥
no_turns digits e turns plain h n = digits_parsed 32 digits (Err e) plain h (n.decimal, digits_some digits (omega (arith, n.value, n.low)), omega (arith, n.value, n.high))

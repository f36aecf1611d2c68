-- What `parse` takes without a sign is a value.
use Rattle.std.proofs.Common.{◌≡◌, ◌≢◌, ◌<◌, ◌^◌, ℕ, List, [], ◌∷◌, ◌++◌, Result, Err, true, arith, get_or, length, sym, subst, ◌∙◌}
use Rattle.std.specs.Prelude.{Option, Some, None}
use Rattle.std.specs.Option.{MatchOption}
use Rattle.std.specs.Result.{OkIff}
use Rattle.std.specs.Str.{all_ascii_digits}
use Rattle.std.specs.Str.Parse.{digits_value, ParsesUnsigned}
use Rattle.std.proofs.lemmas.List.{append_cancel_left}
use Rattle.std.proofs.lemmas.Str.Parse.{IsNumeralModel, numerals_by_value, tells_all_ascii_digits, parse_plain}
use Rattle.lsr_explain.specs.Topics.{NamesValue, ValueOf}

own : IsNumeralModel (λ ds. all_ascii_digits ds ≡ true) (digits_value 10)
own = numerals_by_value _ tells_all_ascii_digits

pub value_parsed : {E : Type 0} (digits : List ℕ) (r : Result ℕ E) → get_or digits 0 0 ≢ 43 → ParsesUnsigned 16 10 digits r → OkIff r ((all_ascii_digits digits ≡ true) × (0 < length digits) × (digits_value 10 digits < 2 ^ 16)) (digits_value 10 digits)
value_parsed digits r plain h = parse_plain own 16 digits r h plain

pub no_value : {E : Type 0} (digits : List ℕ) (e : E) (value : ℕ) → get_or digits 0 0 ≢ 43 → ParsesUnsigned 16 10 digits (Err e) → ValueOf digits value → ⊥
no_value digits e value plain h n = value_parsed digits (Err e) plain h (n.decimal, omega (arith, n.some), omega (arith, n.number, n.high))

no_sign : (digits : List ℕ) → all_ascii_digits digits ≡ true → get_or digits 0 0 ≡ 43 → ⊥
no_sign [] h e = absurd (omega (arith, e))
no_sign (d ∷ ds) h e = let p = tells_all_ascii_digits.parts d ds h in absurd (omega (arith, p.0.0, p.0.1, e))

pub no_value_signed : (digits : List ℕ) (value : ℕ) → get_or digits 0 0 ≡ 43 → ValueOf digits value → ⊥
no_value_signed digits value e n = no_sign digits n.decimal e

-- a word that names a value after a code names that of what is after it
pub value_at : (code word digits : List ℕ) (r : Option ℕ) → word ≡ code ++ digits → MatchOption r ((n : ℕ) → ValueOf digits n → ⊥) (ValueOf digits) → MatchOption r ((n : ℕ) → NamesValue code word n → ⊥) (NamesValue code word)
value_at code word digits None e h = λ n a. h n (subst (λ d. ValueOf d n) (append_cancel_left code a.digits digits (sym a.parts ∙ e)) a.names)
value_at code word digits (Some n) e h = record { digits = digits; parts = e; names = h }

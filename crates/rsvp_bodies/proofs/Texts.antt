-- What `parse` takes is what a text writes, and no strict step begins like a loose one.
use Rattle.std.proofs.Common.{◌≡◌, ◌≢◌, ◌<◌, ◌≤◌, ◌^◌, ℕ, true, false, List, [], ◌∷◌, ◌++◌, refl, sym, ap, subst, ◌∙◌, arith, get_or, length, codes, append_assoc, take, zero, suc}
use Rattle.std.specs.Char.{digit_value}
use Rattle.std.specs.Fmt.{decimal}
use Rattle.std.specs.List.{before_first, position_or_len}
use Rattle.std.specs.Net.Grammar.{IsIpv4Text}
use Rattle.std.specs.Str.Parse.{AllDigits, IsNumeral, digits_value, without_leading_plus}
use Rattle.std.specs.declared.net.ipv4_addr.Ipv4Addr.{Ipv4Addr}
use Rattle.std.proofs.lemmas.Fmt.{decimal_nonempty, digits_decimal}
use Rattle.std.proofs.lemmas.Int.Digits.{digits_value-lt}
use Rattle.std.proofs.lemmas.Str.Parse.{IsNumeralModel, not_in_digits, numerals_by_value, tells_digits, without_leading_plus_none}
use Rattle.rsvp_bodies.specs.declared.prefix.Prefix.{Prefix}
use Rattle.rsvp_bodies.specs.declared.step.Step.{Step}
use Rattle.rsvp_bodies.specs.declared.step.Step.TheVariants.{Ipv4, Other}
use Rattle.rsvp_bodies.specs.RateWords.{IsRateText}
use Rattle.rsvp_bodies.specs.RouteWords.{is_slash, IsPrefixText, IsStepText}

-- a numeral begins with a digit, and so with no sign
no_plus : (radix : ℕ) (text : List ℕ) → radix ≤ 36 → IsNumeral radix text → get_or text 0 0 ≢ 43
no_plus radix [] low h = absurd (omega (arith, h.0))
no_plus radix (c ∷ cs) low h = λ e. omega (arith, h.1.0, ap digit_value e)

-- eight digits write a number of 32 bits
pub rate_parses : (text : List ℕ) (rate : ℕ) → IsRateText text rate → IsNumeral 16 (without_leading_plus text) × (digits_value 16 (without_leading_plus text) < 2 ^ 32)
rate_parses text rate h =
    let same = without_leading_plus_none text (no_plus 16 text (omega arith) h.hexadecimal) in
    let low : digits_value 16 text < 2 ^ 32 = subst (λ n. digits_value 16 text < 16 ^ n) h.eight (digits_value-lt 16 text h.hexadecimal.1) in
    subst (λ t. IsNumeral 16 t × (digits_value 16 t < 2 ^ 32)) (sym same) (h.hexadecimal, low)

own : IsNumeralModel (AllDigits 10) (digits_value 10)
own = numerals_by_value _ tells_digits

first_of : (xs ys text : List ℕ) → text ≡ xs ++ ys → 0 < length xs → get_or text 0 0 ≡ get_or xs 0 0
first_of [] ys text e some = absurd (omega (arith, some))
first_of (x ∷ xs) ys text e some = ap (λ t. get_or t 0 0) e

-- an address begins with a digit
no_tilde : (text : List ℕ) (address : Ipv4Addr) → get_or text 0 0 ≡ 126 → IsIpv4Text text address → ⊥
no_tilde text address tilde h =
    let fits : h.a < 2 ^ 64 = omega (arith, h.fit.0) in
    let some = decimal_nonempty h.a fits in
    let first = first_of (decimal h.a) (codes "." ++ (decimal h.b ++ (codes "." ++ (decimal h.c ++ (codes "." ++ decimal h.d))))) text (simp append_assoc at h.spelled) some in
    not_in_digits own (decimal h.a) 126 (digits_decimal own h.a fits) (λ r. omega (arith, r)) 0 some (sym first ∙ tilde)

first_taken : (n x : ℕ) (xs : List ℕ) → 0 < n → get_or (take n (x ∷ xs)) 0 0 ≡ x
first_taken zero x xs some = absurd (omega (arith, some))
first_taken (suc n) x xs some = refl

tilde_kept : (rest : List ℕ) → get_or (before_first is_slash (126 ∷ rest)) 0 0 ≡ 126
tilde_kept rest = first_taken (position_or_len is_slash (126 ∷ rest)) 126 rest (omega arith)

-- where no prefix is behind the tilde there is no step
pub no_loose_step : (text written : List ℕ) → text ≡ 126 ∷ written → ((prefix : Prefix) → ¬ IsPrefixText written prefix) → (step : Step) → ¬ IsStepText text step
no_loose_step text written e none (Ipv4 true prefix) h = none prefix (let same : written ≡ h.0 = cc in subst (λ w. IsPrefixText w prefix) (sym same) h.2)
no_loose_step text written e none (Ipv4 false prefix) h = no_tilde (before_first is_slash (126 ∷ written)) prefix.address (tilde_kept written) (subst (λ t. IsIpv4Text (before_first is_slash t) prefix.address) (sym h.1 ∙ e) h.2.0)
no_loose_step text written e none (Other bytes) h = h

-- where there is no tilde and no prefix there is none either
pub no_strict_step : (text : List ℕ) → ((rest : List ℕ) → text ≢ 126 ∷ rest) → ((prefix : Prefix) → ¬ IsPrefixText text prefix) → (step : Step) → ¬ IsStepText text step
no_strict_step text plain none (Ipv4 true prefix) h = plain h.0 h.1
no_strict_step text plain none (Ipv4 false prefix) h = none prefix (subst (λ t. IsPrefixText t prefix) (sym h.1) h.2)
no_strict_step text plain none (Other bytes) h = h

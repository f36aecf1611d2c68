-- A rate is the number that its word stands for, rounded up.
use Rattle.std.proofs.Common.{◌≡◌, ℕ, zero, suc, ◌+◌, ◌-◌, ◌*◌, ◌^◌, ◌<◌, ◌≤◌, Bool, true, false, nat_eq, nat_lt, ◌&&◌, ◌||◌, if◌then◌else◌, Option, Some, None, refl, sym, ap, subst, ◌∙◌, arith}
use Rattle.std.specs.Int.{div_ceil}
use Rattle.std.proofs.Math.Nat.{mul_assoc, mul-le-mul_right, le_of_mul-le-mul_right, lt_of_mul-lt-mul_right, pow-le-pow_right, add-mul, mod-lt}
use Rattle.std.proofs.lemmas.Nat.{mul-le, pow-add, pow_pos}
use Rattle.std.proofs.lemmas.Grind.{div_ceil_times}
use Rattle.std.proofs.lemmas.Bool.{eqb-true, eqb-false, ltb-true, ltb-false}
use Rattle.rsvp_bodies.specs.Rates.{sign_of, exponent_of, fraction_of, scaled_up, rate_of}
use Rattle.rsvp_bodies.specs.RateLaws.{IsInRange, IsRoundedUp, RatesAreRoundedUp, RefusalsAreFair}

-- with d wholes to a step and p parts to a whole
div_ceil-rounded : (s d p one : ℕ) → 0 < d → 0 < p → d * p ≡ one → IsRoundedUp (s * p) one (div_ceil s d)
div_ceil-rounded s d p one some_d some_p is =
    let times = div_ceil_times s d some_d in
    let regroup : (n : ℕ) → n * d * p ≡ n * one = λ n. mul_assoc n d p ∙ ap (λ x. n * x) is in
    let enough : s * p ≤ div_ceil s d * d * p = mul-le-mul_right p times.0 in
    record {
      enough = omega (arith, enough, regroup (div_ceil s d));
      least = λ n holds.
          let scaled : s * p ≤ n * d * p = omega (arith, holds, regroup n) in
          let below : s ≤ n * d = le_of_mul-le-mul_right scaled some_p in
          let next : (n + 1) * d ≡ n * d + 1 * d = add-mul n 1 d in
          let close : div_ceil s d * d < (n + 1) * d = omega (arith, times.1) in
          let under : div_ceil s d < n + 1 = lt_of_mul-lt-mul_right d close in
          omega arith;
    }

-- whole numbers stay as they are
whole-rounded : (whole parts one : ℕ) → 0 < one → parts ≡ whole * one → IsRoundedUp parts one whole
whole-rounded whole parts one some is = record {
  enough = omega arith;
  least = λ n holds.
      let scaled : whole * one ≤ n * one = omega arith in
      le_of_mul-le-mul_right scaled some;
}

-- both sides of the exponent that counts ones
scaled_up-rounded : (s e : ℕ) (near : Bool) → 0 < e → nat_lt e 150 ≡ near
    → IsRoundedUp (s * 2 ^ (e - 1)) (2 ^ 149) (if near then div_ceil s (2 ^ (150 - e)) else s * 2 ^ (e - 150))
scaled_up-rounded s e true some is =
    let below : e < 150 = ltb-true e 150 is in
    let sum : 150 - e + (e - 1) ≡ 149 = omega arith in
    let product : 2 ^ (150 - e) * 2 ^ (e - 1) ≡ 2 ^ 149 = sym (pow-add 2 (150 - e) (e - 1)) ∙ ap (λ k. 2 ^ k) sum in
    div_ceil-rounded s (2 ^ (150 - e)) (2 ^ (e - 1)) (2 ^ 149) (pow_pos (150 - e)) (pow_pos (e - 1)) product
scaled_up-rounded s e false some is =
    let above : 150 ≤ e = ltb-false e 150 is in
    let sum : e - 1 ≡ e - 150 + 149 = omega arith in
    let product : 2 ^ (e - 1) ≡ 2 ^ (e - 150) * 2 ^ 149 = ap (λ k. 2 ^ k) sum ∙ pow-add 2 (e - 150) 149 in
    whole-rounded (s * 2 ^ (e - 150)) (s * 2 ^ (e - 1)) (2 ^ 149) (pow_pos 149)
    (ap (λ x. s * x) product ∙ sym (mul_assoc s (2 ^ (e - 150)) (2 ^ 149)))

-- a part of 1
part-rounded : (parts one : ℕ) → 0 < parts → parts ≤ one → IsRoundedUp parts one 1
part-rounded parts one some within = record {
  enough = omega arith;
  least = λ n holds. elim n as (λ n. parts ≤ n * one → 1 ≤ n) [ zero ↦ λ none. absurd (omega arith) | suc n ↦ λ _. omega arith ] holds;
}

-- a number of an exponent up to 176 is below 2 ^ 50, and one of an exponent above it is not
scaled-below : (e f : ℕ) → f < 2 ^ 23 → e ≤ 176 → (2 ^ 23 + f) * 2 ^ (e - 1) < 2 ^ 50 * 2 ^ 149
scaled-below e f fits near =
    let some : zero < 2 = omega arith in
    let exponent : e - 1 ≤ 175 = omega arith in
    let power : 2 ^ (e - 1) ≤ 2 ^ 175 = pow-le-pow_right some exponent in
    let significand : 2 ^ 23 + f ≤ 2 ^ 24 - 1 = omega arith in
    let product : (2 ^ 23 + f) * 2 ^ (e - 1) ≤ (2 ^ 24 - 1) * 2 ^ 175 = mul-le (2 ^ 23 + f) (2 ^ (e - 1)) (2 ^ 24 - 1) (2 ^ 175) significand power in
    omega arith

scaled-above : (e f : ℕ) → 176 < e → 2 ^ 50 * 2 ^ 149 ≤ (2 ^ 23 + f) * 2 ^ (e - 1)
scaled-above e f far =
    let some : zero < 2 = omega arith in
    let exponent : 176 ≤ e - 1 = omega arith in
    let power : 2 ^ 176 ≤ 2 ^ (e - 1) = pow-le-pow_right some exponent in
    let significand : 2 ^ 23 ≤ 2 ^ 23 + f = omega arith in
    mul-le (2 ^ 23) (2 ^ 176) (2 ^ 23 + f) (2 ^ (e - 1)) significand power

-- the cases of a rate, by what the tests of its fields say
cases-rounded : (e f sign rate : ℕ) (small none negative large : Bool) → f < 2 ^ 23
    → nat_eq e 0 ≡ small → nat_eq f 0 ≡ none → nat_eq sign 1 ≡ negative → nat_lt 176 e ≡ large
    → ◌≡◌ {A = Option ℕ} (if small && none then Some 0 else if negative || large then None else if small then Some 1 else Some (scaled_up (2 ^ 23 + f) e)) (Some rate)
    → IsInRange sign (if small then f else (2 ^ 23 + f) * 2 ^ (e - 1)) × IsRoundedUp (if small then f else (2 ^ 23 + f) * 2 ^ (e - 1)) (2 ^ 149) rate
cases-rounded e f sign rate true true negative large fits is_small is_none is_negative is_large is =
    let nothing : f ≡ 0 = eqb-true f 0 is_none in
    let rate_is : 0 ≡ rate = cc in (
      record { not_negative = λ _. nothing; below = omega arith },
      subst (λ r. IsRoundedUp f (2 ^ 149) r) rate_is (whole-rounded 0 f (2 ^ 149) (pow_pos 149) (omega arith)),
    )
cases-rounded e f sign rate true false true large fits is_small is_none is_negative is_large is = absurd cc
cases-rounded e f sign rate true false false true fits is_small is_none is_negative is_large is = absurd cc
cases-rounded e f sign rate true false false false fits is_small is_none is_negative is_large is =
    let differs = eqb-false f 0 is_none in
    let some : 0 < f = omega (arith, differs) in
    let rate_is : 1 ≡ rate = cc in (
      record { not_negative = λ minus. absurd (eqb-false sign 1 is_negative minus); below = omega arith },
      subst (λ r. IsRoundedUp f (2 ^ 149) r) rate_is (part-rounded f (2 ^ 149) some (omega arith)),
    )
cases-rounded e f sign rate false none true large fits is_small is_none is_negative is_large is = absurd cc
cases-rounded e f sign rate false none false true fits is_small is_none is_negative is_large is = absurd cc
cases-rounded e f sign rate false none false false fits is_small is_none is_negative is_large is =
    let differs = eqb-false e 0 is_small in
    let some : 0 < e = omega (arith, differs) in
    let near : e ≤ 176 = ltb-false 176 e is_large in
    let rate_is : scaled_up (2 ^ 23 + f) e ≡ rate = cc in (
      record { not_negative = λ minus. absurd (eqb-false sign 1 is_negative minus); below = scaled-below e f fits near },
      subst (λ r. IsRoundedUp ((2 ^ 23 + f) * 2 ^ (e - 1)) (2 ^ 149) r) rate_is (scaled_up-rounded (2 ^ 23 + f) e (nat_lt e 150) some refl),
    )

-- the two statements about every word
pub rates_are_rounded_up : RatesAreRoundedUp
unfolding rate_of
rates_are_rounded_up word rate is =
    let some : zero < 2 ^ 23 = pow_pos 23 in
    let fits : fraction_of word < 2 ^ 23 = mod-lt word some in
    cases-rounded (exponent_of word) (fraction_of word) (sign_of word) rate (nat_eq (exponent_of word) 0) (nat_eq (fraction_of word) 0)
    (nat_eq (sign_of word) 1) (nat_lt 176 (exponent_of word)) fits refl refl refl refl is

-- the cases of a refusal, likewise
cases-refused : (e f sign : ℕ) (small none negative large : Bool)
    → nat_eq e 0 ≡ small → nat_eq f 0 ≡ none → nat_eq sign 1 ≡ negative → nat_lt 176 e ≡ large
    → ◌≡◌ {A = Option ℕ} (if small && none then Some 0 else if negative || large then None else if small then Some 1 else Some (scaled_up (2 ^ 23 + f) e)) None
    → IsInRange sign (if small then f else (2 ^ 23 + f) * 2 ^ (e - 1)) → ⊥
cases-refused e f sign true true negative large is_small is_none is_negative is_large is within = cc
cases-refused e f sign true false true large is_small is_none is_negative is_large is within =
    eqb-false f 0 is_none (within.not_negative (eqb-true sign 1 is_negative))
cases-refused e f sign true false false true is_small is_none is_negative is_large is within =
    let nothing : e ≡ 0 = eqb-true e 0 is_small in
    let above : 176 < e = ltb-true 176 e is_large in
    omega arith
cases-refused e f sign true false false false is_small is_none is_negative is_large is within = cc
cases-refused e f sign false none true large is_small is_none is_negative is_large is within =
    let nothing : (2 ^ 23 + f) * 2 ^ (e - 1) ≡ 0 = within.not_negative (eqb-true sign 1 is_negative) in
    let some : 0 < 2 ^ (e - 1) = pow_pos (e - 1) in
    let significand : 1 ≤ 2 ^ 23 + f = omega arith in
    let product : 1 * 2 ^ (e - 1) ≤ (2 ^ 23 + f) * 2 ^ (e - 1) = mul-le-mul_right (2 ^ (e - 1)) significand in
    omega arith
cases-refused e f sign false none false true is_small is_none is_negative is_large is within =
    let far : 176 < e = ltb-true 176 e is_large in
    let above : 2 ^ 50 * 2 ^ 149 ≤ (2 ^ 23 + f) * 2 ^ (e - 1) = scaled-above e f far in
    let below = within.below in
    omega arith
cases-refused e f sign false none false false is_small is_none is_negative is_large is within = cc

pub refusals_are_fair : RefusalsAreFair
unfolding rate_of
refusals_are_fair word is =
    cases-refused (exponent_of word) (fraction_of word) (sign_of word) (nat_eq (exponent_of word) 0) (nat_eq (fraction_of word) 0)
    (nat_eq (sign_of word) 1) (nat_lt 176 (exponent_of word)) refl refl refl refl is

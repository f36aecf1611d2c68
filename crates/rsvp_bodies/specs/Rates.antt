-- The rate of a token bucket, in bytes per second: what the fields of an IEEE 754 single precision
-- number stand for (RFC 2215, 3.6; IEEE 754, 3.4).
use Rattle.std.specs.Prelude.{ℕ, ◌+◌, ◌-◌, ◌*◌, ◌/◌, ◌%◌, ◌^◌, ◌==◌, ◌&&◌, ◌||◌, nat_lt, if◌then◌else◌, Option, Some, None}
use Rattle.std.specs.Int.{div_ceil}

-- the sign, in the top bit of the word
abbrev pub sign_of : ℕ → ℕ
sign_of word = word / 2 ^ 31

-- the exponent, in the 8 bits below it
abbrev pub exponent_of : ℕ → ℕ
exponent_of word = word / 2 ^ 23 % 256

-- the fraction, in the low 23 bits
abbrev pub fraction_of : ℕ → ℕ
fraction_of word = word % 2 ^ 23

-- significand * 2 ^ (exponent - 150), rounded up to a whole number
abbrev pub scaled_up : ℕ → ℕ → ℕ
scaled_up significand exponent =
    if nat_lt exponent 150 then div_ceil significand (2 ^ (150 - exponent)) else significand * 2 ^ (exponent - 150)

-- The rate, rounded up to a whole number. None: the number is negative, or it is 2 ^ 50 or more, an
-- infinity or no number, which are the exponents above 176.
unfoldable pub rate_of : ℕ → Option ℕ
rate_of word =
    if exponent_of word == 0 && fraction_of word == 0 then Some 0
    else if sign_of word == 1 || nat_lt 176 (exponent_of word) then None
    else if exponent_of word == 0 then Some 1
    else Some (scaled_up (2 ^ 23 + fraction_of word) (exponent_of word))

-- What a rate means: the number that its word stands for, rounded up.
use Rattle.std.specs.Prelude.{◌≡◌, ℕ, ◌+◌, ◌-◌, ◌*◌, ◌^◌, ◌<◌, ◌≤◌, ◌==◌, if◌then◌else◌, Some, None}
use Rattle.rsvp_bodies.specs.Rates.{sign_of, exponent_of, fraction_of, rate_of}

-- The number without its sign, counted in parts of 2 ^ -149, the least number that the format has: an
-- exponent of 0 or 1 counts such parts, and each exponent above doubles them (IEEE 754, 3.4).
abbrev pub parts_of : ℕ → ℕ
parts_of word =
    if exponent_of word == 0 then fraction_of word
    else (2 ^ 23 + fraction_of word) * 2 ^ (exponent_of word - 1)

-- the number is not negative, and it is below 2 ^ 50
pub record IsInRange (sign parts : ℕ) : Type 0 where
  pub not_negative : sign ≡ 1 → parts ≡ 0
  pub below : parts < 2 ^ 50 * 2 ^ 149

-- the least whole number that has so many parts, with so many parts to each whole
pub record IsRoundedUp (parts parts_of_one whole : ℕ) : Type 0 where
  pub enough : parts ≤ whole * parts_of_one
  pub least : (n : ℕ) → parts ≤ n * parts_of_one → whole ≤ n

-- a word that has a rate is in range, and the rate is its number rounded up
abbrev pub RatesAreRoundedUp : Type 0
RatesAreRoundedUp =
    (word rate : ℕ) → rate_of word ≡ Some rate →
    IsInRange (sign_of word) (parts_of word) × IsRoundedUp (parts_of word) (2 ^ 149) rate

-- a word that has none is out of range
abbrev pub RefusalsAreFair : Type 0
RefusalsAreFair = (word : ℕ) → rate_of word ≡ None → ¬ IsInRange (sign_of word) (parts_of word)

-- How an operator writes the rate of traffic, and what a sender then says of the traffic.
use Rattle.std.specs.Prelude.{◌≡◌, ℕ, List, ◌∷◌, ◌++◌, length}
use Rattle.std.specs.Str.Parse.{IsNumeral, digits_value}
use Rattle.byteorder.specs.Endian.{big_bytes}

-- The text writes the 32 bits of a rate: eight hexadecimal digits, of either case.
pub record IsRateText (text : List ℕ) (rate : ℕ) : Type 0 where
  pub eight : length text ≡ 8
  pub hexadecimal : IsNumeral 16 text
  pub value : digits_value 16 text ≡ rate

-- a word of 32 bits in three parts: the version or a number in its top byte, and how many words are behind it
abbrev pub header : ℕ → ℕ → List ℕ
header number words = number ∷ 0 ∷ big_bytes 2 words

-- The body of a SENDER_TSPEC for traffic of this rate: a token bucket with it as its rate r and its size b, an infinite
-- peak rate p, a minimum policed unit m of 64 bytes and packets of at most M = 1,500 bytes (RFC 2210, 3.1).
abbrev pub tspec_with : ℕ → List ℕ
tspec_with rate =
    header 0 7 ++ header 1 6 ++ header 127 5
    ++ big_bytes 4 rate ++ big_bytes 4 rate ++ big_bytes 4 2139095040 ++ big_bytes 4 64 ++ big_bytes 4 1500

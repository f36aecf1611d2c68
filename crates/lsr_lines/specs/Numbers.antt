-- Which digits name a number.
use Rattle.std.specs.Prelude.{◌≡◌, ◌≤◌, ◌<◌, ◌^◌, ℕ, length, List, true}
use Rattle.std.specs.Str.{all_ascii_digits}
use Rattle.std.specs.Str.Parse.{digits_value}

-- A link's number: decimal digits, leading zeros taken, 1 to 65,535.
pub record NamesLink (digits : List ℕ) (link : ℕ) : Type 0 where
  pub decimal : all_ascii_digits digits ≡ true
  pub value : digits_value 10 digits ≡ link
  pub low : 1 ≤ link
  pub high : link ≤ 65535

-- A number of 64 bits: decimal digits, leading zeros taken.
pub record NamesWhole (digits : List ℕ) (number : ℕ) : Type 0 where
  pub some : 1 ≤ length digits
  pub decimal : all_ascii_digits digits ≡ true
  pub value : digits_value 10 digits ≡ number
  pub high : number < 2 ^ 64

-- A number from 0 to the most that is allowed: decimal digits, leading zeros taken.
pub record NamesUpTo (most : ℕ) (digits : List ℕ) (number : ℕ) : Type 0 where
  pub some : 1 ≤ length digits
  pub decimal : all_ascii_digits digits ≡ true
  pub value : digits_value 10 digits ≡ number
  pub high : number ≤ most

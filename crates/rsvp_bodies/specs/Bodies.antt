-- The bytes of an object's body.
use Rattle.std.specs.Prelude.{◌≡◌, ◌≤◌, ◌%◌, ℕ, List, length}

-- Whole words of four bytes, so many that the object's length of 16 bits can count them and the header
-- (RFC 2205, 3.1.2).
pub record IsBody (bytes : List ℕ) : Type 0 where
  pub whole_words : length bytes % 4 ≡ 0
  pub fits : length bytes ≤ 65528

-- How many turns a word asks for.
use Rattle.std.specs.Prelude.{◌≡◌, ◌≤◌, ℕ, List, Option, Some, None, true}
use Rattle.std.specs.Str.{all_ascii_digits}
use Rattle.std.specs.Str.Parse.{digits_value}

-- The word spells a number of turns: decimal digits, leading zeros taken, 1 to 1,000,000.
pub record SpellsTurns (digits : List ℕ) (turns : ℕ) : Type 0 where
  pub decimal : all_ascii_digits digits ≡ true
  pub value : digits_value 10 digits ≡ turns
  pub low : 1 ≤ turns
  pub high : turns ≤ 1000000

-- So many turns are asked for: as the word says; without a word 1,000.
abbrev pub AsksForTurns : Option (List ℕ) → ℕ → Type 0
AsksForTurns None turns = turns ≡ 1000
AsksForTurns (Some digits) turns = SpellsTurns digits turns

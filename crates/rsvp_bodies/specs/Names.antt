-- The name of a SESSION_ATTRIBUTE.
use Rattle.std.specs.Prelude.{ℕ, ◌-◌, ◌%◌, ◌≤◌, List, length, replicate}

-- its length is a number of 8 bits
abbrev pub IsName : List ℕ → Type 0
IsName name = length name ≤ 255

-- zeros that fill the last word
abbrev pub padding : ℕ → List ℕ
padding n = replicate ((4 - n % 4) % 4) 0

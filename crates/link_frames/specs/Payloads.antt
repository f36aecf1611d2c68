-- The bytes of a payload.
use Rattle.std.specs.Prelude.{ℕ, ◌≤◌, List, length}

-- at most 4,096
abbrev pub IsData : List ℕ → Type 0
IsData bytes = length bytes ≤ 4096

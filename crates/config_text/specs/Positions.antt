-- Lines and columns of a text.
use Rattle.std.specs.Prelude.{ℕ, ◌+◌, ◌==◌, ◌&&◌, nat_le, Bool, List, fold, count_by, if◌then◌else◌}

-- the byte ends a line
abbrev pub is_newline : ℕ → Bool
is_newline byte = byte == 10

-- the line that goes on after these bytes; the first is 1
abbrev pub line_after : List ℕ → ℕ
line_after before = 1 + count_by is_newline before

-- the byte goes on with a character, in UTF-8
abbrev pub continues : ℕ → Bool
continues byte = nat_le 128 byte && nat_le byte 191

-- the column after one more byte
abbrev pub next_column : ℕ → ℕ → ℕ
next_column column byte = if byte == 10 then 1 else if continues byte then column else column + 1

-- the column after these bytes: 1 at the start of a line, and one more for each character
abbrev pub column_after : List ℕ → ℕ
column_after before = fold next_column 1 before

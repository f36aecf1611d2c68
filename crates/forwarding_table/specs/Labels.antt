-- Labels by their numbers (RFC 3032, 2.1).
use Rattle.std.specs.Prelude.{◌==◌, ◌&&◌, ◌||◌, ℕ, nat_le, Bool, IsTrue}

-- explicit null: its entry is taken away where it arrives
abbrev pub explicit_null : ℕ
explicit_null = 0

-- implicit null: whoever gives it out wants no entry, so it never stands in a stack
abbrev pub implicit_null : ℕ
implicit_null = 3

-- what may be written for a label: one of both, or the label of an LSP, 16 to 1,048,575
abbrev pub is_label : ℕ → Bool
is_label label = (label == explicit_null) || (label == implicit_null) || (nat_le 16 label && nat_le label 1048575)

abbrev pub IsLabel : ℕ → Type 0
IsLabel label = IsTrue (is_label label)

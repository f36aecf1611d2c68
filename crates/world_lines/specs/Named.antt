-- Which files a world's file names.
use Rattle.std.specs.Prelude.{List, ℕ, [], ◌∷◌, Option, Some, None, bytes_eq, codes, if◌then◌else◌}
use Rattle.std.specs.List.{filter_map}
use Rattle.lsr_lines.specs.Commands.{words_of}

-- the file that words name: they are `router NAME FILE`, and neither the name nor the file is empty
abbrev pub file_in : List (List ℕ) → Option (List ℕ)
file_in (word ∷ (n ∷ name) ∷ (f ∷ file) ∷ []) = if bytes_eq word (codes "router") then Some (f ∷ file) else None
file_in words = None

-- the files that lines name, in order
abbrev pub files_of : List (List ℕ) → List (List ℕ)
files_of lines = filter_map (λ line. file_in (words_of line)) lines

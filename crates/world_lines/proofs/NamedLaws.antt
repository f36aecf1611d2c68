-- Lines that were looked at for the files that they name.
use Rattle.std.proofs.Common.{◌≡◌, ◌≤◌, ℕ, List, [], ◌∷◌, None, arith, length, refl}
use Rattle.std.specs.Str.{IsUtf8}
use Rattle.line_streams.specs.Cuts.{lines_of}
use Rattle.world_lines.specs.Lines.{SaysFile}
use Rattle.world_lines.specs.Named.{file_in, files_of}

-- The files that a text names are those that the rest of it names.
pub record IsLeft (text rest : List ℕ) : Type 0 where
  pub same : files_of (lines_of text) ≡ files_of (lines_of rest)
  pub short : length rest ≤ length text
  pub utf8 : IsUtf8 rest

-- words behind the first that are no name and no file name none
pub no_file : (word : List ℕ) (others : List (List ℕ)) → ((name : List ℕ) (file : List ℕ) → ¬ SaysFile others name file) → file_in (word ∷ others) ≡ None
no_file word [] h = refl
no_file word ([] ∷ others) h = refl
no_file word ((n ∷ name) ∷ []) h = refl
no_file word ((n ∷ name) ∷ [] ∷ others) h = refl
no_file word ((n ∷ name) ∷ (f ∷ file) ∷ []) h = absurd (h (n ∷ name) (f ∷ file) ((refl, omega arith), (refl, omega arith)))
no_file word ((n ∷ name) ∷ (f ∷ file) ∷ more ∷ others) h = refl

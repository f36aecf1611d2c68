-- Which topics come closest to a word.
use Rattle.std.specs.Prelude.{◌≡◌, ℕ, List, [], ◌∷◌, ◌++◌, Bool, Option, Some, None, flat_map, if◌then◌else◌, length, map, min, nat_eq}
use Rattle.std.specs.List.Sorted.{IsNonDecreasingBy, IsPermutation}
use Rattle.std.specs.Str.{chars}
use Rattle.strsim.specs.Edits.{levenshtein_row}
use Rattle.line_streams.specs.Cuts.{lines_of}
use Rattle.lsr_explain.specs.Topics.{has_names, is_indented, text_of, words_of}
use Rattle.lsr_explain.specs.declared.nearest.Near.{Near}
use Rattle.lsr_explain.specs.declared.topics.Kind.{Kind}
use Rattle.lsr_explain.specs.declared.topics.Kind.TheVariants as kinds

-- how many characters are put in, taken out or changed to make one word of another
abbrev pub edits : List ℕ → List ℕ → ℕ
edits word other = levenshtein_row nat_eq (chars word) (chars other) (length (chars other))

-- the same, to make the first of two words, or the other one, where that is a name; the fewest
abbrev pub edits_by : Bool → List ℕ → List ℕ → Option (List ℕ × List ℕ) → ℕ
edits_by named word heading None = edits word heading
edits_by named word heading (Some words) = if named then min (edits word words.0) (edits word words.1) else edits word words.0

-- how far a heading of a kind is from a word
abbrev pub edits_to : Kind → List ℕ → List ℕ → ℕ
edits_to kind word heading = edits_by (has_names kind) word heading (words_of heading)

-- what is known of a heading: how far it is, its kind and its text
abbrev pub shown : Near → ℕ × Kind × List ℕ
shown near = (near.edits, near.kind, near.heading.now)

-- a line that is a heading; of others nothing
abbrev pub near_line : Kind → List ℕ → List ℕ → List (ℕ × Kind × List ℕ)
near_line kind word line = if is_indented line then [] else (edits_to kind word line, kind, line) ∷ []

-- the headings among lines
abbrev pub near_lines : Kind → List ℕ → List (List ℕ) → List (ℕ × Kind × List ℕ)
near_lines kind word lines = flat_map (near_line kind word) lines

-- the headings of a kind
abbrev pub near_kind : Kind → List ℕ → List (ℕ × Kind × List ℕ)
near_kind kind word = near_lines kind word (lines_of (text_of kind))

-- all headings
abbrev pub near_all : List ℕ → List (ℕ × Kind × List ℕ)
near_all word =
    near_kind kinds.Refusal word ++ (near_kind kinds.RsvpError word ++ (near_kind kinds.ConfigFault word ++ (near_kind kinds.RunFault word ++ near_kind kinds.Ending word)))

-- All headings, the nearest to a word first.
pub record IsRanking (word : List ℕ) (ranked : List Near) : Type 0 where
  pub found : List Near
  pub all : map shown found ≡ near_all word
  pub same : IsPermutation found ranked
  pub sorted : IsNonDecreasingBy (λ near. near.edits) ranked

-- Places in a line, and the links between neighbours that keep it.
use Rattle.std.specs.Prelude.{◌≡◌, ℕ, zero, suc, ◌+◌, ◌<◌, ◌≤◌, ◌==◌, nat_eq, nat_lt, not, if◌then◌else◌, List, [], ◌∷◌, ◌++◌, Contains, filter, length, slice_get, slice_index}
use Rattle.std.specs.List.{AllByRecursion, IsDistinct}
use Rattle.std.specs.Option.{unwrap_or}

-- so many places, numbered from 0, and those of them that are in line, the first first
pub record Places : Type 0 where
  pub count : ℕ
  pub line : List ℕ

-- a line that one member left, with the others in their order
abbrev pub line_without : ℕ → List ℕ → List ℕ
line_without gone line = filter (λ other. not (gone == other)) line

-- a line that a place joins, behind all whose number is no more than its own
abbrev pub line_with : List ℕ → ℕ → List ℕ → List ℕ
line_with numbers place [] = place ∷ []
line_with numbers place (first ∷ line) =
    if nat_lt (slice_index numbers place) (slice_index numbers first) then place ∷ first ∷ line else first ∷ line_with numbers place line

-- the numbers of places don't fall along a line
abbrev pub IsRising : List ℕ → List ℕ → Type 0
IsRising numbers [] = Unit {0}
IsRising numbers (place ∷ line) = AllByRecursion (λ other. slice_index numbers place ≤ slice_index numbers other) line × IsRising numbers line

-- A line parted at a number: the numbers of the places before are no more than this, those behind are more. The place is the
-- first of these, or where there is none, the number of all places.
pub record IsBehind (numbers : List ℕ) (number : ℕ) (places : Places) (place : ℕ) : Type 0 where
  pub before : List ℕ
  pub behind : List ℕ
  pub parts : places.line ≡ before ++ behind
  pub least : AllByRecursion (λ other. slice_index numbers other ≤ number) before
  pub more : AllByRecursion (λ other. number < slice_index numbers other) behind
  pub first : unwrap_or (slice_get behind 0) places.count ≡ place

-- from one place along a line to another, each place and the one behind it name each other
abbrev pub IsLinked : List ℕ → List ℕ → ℕ → List ℕ → ℕ → Type 0
IsLinked next previous from [] to = (slice_index next from ≡ to) × (slice_index previous to ≡ from)
IsLinked next previous from (place ∷ line) to =
    (slice_index next from ≡ place) × (slice_index previous place ≡ from) × IsLinked next previous place line to

-- the places from one on, each followed by the one behind it, up to the end, at most so many
unfoldable pub line_from : ℕ → ℕ → List ℕ → ℕ → List ℕ
line_from zero end next place = []
line_from (suc most) end next place = if place == end then [] else place ∷ line_from most end next (slice_index next place)

-- the line that the links say, which begins and ends at the place behind all others
abbrev pub line_of : ℕ → List ℕ → List ℕ
line_of count next = line_from count count next (slice_index next count)

-- links of so many places: each place that isn't in line has itself as the next
pub record AreLinks (count : ℕ) (next previous : List ℕ) : Type 0 where
  pub nexts : length next ≡ count + 1
  pub previouses : length previous ≡ count + 1
  pub linked : IsLinked next previous count (line_of count next) count
  pub within : AllByRecursion (λ place. place < count) (line_of count next)
  pub apart : IsDistinct nat_eq (line_of count next)
  pub alone : (place : ℕ) → place < count → ¬ Contains (line_of count next) place → slice_index next place ≡ place

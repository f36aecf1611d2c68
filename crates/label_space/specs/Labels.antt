-- Which labels of a router are free, and in which order they are given (RFC 3031, 3.14).
use Rattle.std.specs.Prelude.{◌≡◌, ℕ, ◌+◌, ◌-◌, ◌≤◌, ◌<◌, max, nat_eq, nat_le, nat_lt, if◌then◌else◌, List, [], ◌∷◌, ◌++◌, Contains, Option, filter, length, map, slice_get, slice_index}
use Rattle.std.specs.List.{AllByRecursion, IsDistinct, range_with_len}
use Rattle.sorted_rows.specs.Rows.{keys_of}
use Rattle.lsr_facts.specs.Routers.{AreLabels}
use Rattle.lsr_facts.specs.declared.router.LabelRange.{LabelRange}
use Rattle.label_space.specs.Lines.{IsRising, Places, line_without}
use Rattle.label_space.specs.Rests.{resting_past}

-- a router's labels: those that are free, in the order in which they are given, and those that rest, each until a moment, in
-- the order of these moments; and the moment that the router was told last
pub record Labels : Type 0 where
  pub range : LabelRange
  pub moment : ℕ
  pub free : List ℕ
  pub resting : List (ℕ × ℕ)

-- the label is one of the range
pub record IsOf (range : LabelRange) (label : ℕ) : Type 0 where
  pub from : range.first ≤ label
  pub to : label ≤ range.last

-- the label is one of the free ones: no LSP has it, and it doesn't rest
abbrev pub IsFree : Labels → ℕ → Type 0
IsFree labels label = Contains labels.free label

-- the label is one of those that rest
abbrev pub IsResting : Labels → ℕ → Type 0
IsResting labels label = Contains (keys_of labels.resting) label

-- the label is one of the range, and neither free nor resting: an LSP has it
pub record IsHeld (labels : Labels) (label : ℕ) : Type 0 where
  pub own : IsOf labels.range label
  pub taken : ¬ IsFree labels label
  pub awake : ¬ IsResting labels label

-- the labels that no LSP has: first those that are free, and behind them those that rest
abbrev pub in_line : Labels → List ℕ
in_line labels = labels.free ++ keys_of labels.resting

-- labels that may be given out, and of these the free ones and those that rest, none of them twice; no rest is over
pub record IsLabelSpace (labels : Labels) : Type 0 where
  pub range : AreLabels labels.range
  pub own : AllByRecursion (IsOf labels.range) (in_line labels)
  pub apart : IsDistinct nat_eq (in_line labels)
  pub later : AllByRecursion (λ row. labels.moment < row.1) labels.resting

-- all labels of a range, the least first
abbrev pub labels_of : LabelRange → List ℕ
labels_of range = range_with_len range.first (range.last - range.first + 1)

-- the label that is given next: the first of the free ones
abbrev pub give : Labels → Option ℕ
give labels = slice_get labels.free 0

-- An LSP takes a label: it is free no more.
abbrev pub hold : Labels → ℕ → Labels
hold labels label = record labels { free = line_without label labels.free }

-- rows with one more, which stands behind those that rest no longer
abbrev pub rests_with : ℕ × ℕ → List (ℕ × ℕ) → List (ℕ × ℕ)
rests_with row [] = row ∷ []
rests_with row (first ∷ rows) = if nat_lt row.1 first.1 then row ∷ first ∷ rows else first ∷ rests_with row rows

-- An LSP gives a label back, which rests until a moment. Where this moment has come, the label is the last of the free ones.
abbrev pub release : Labels → ℕ → ℕ → Labels
release labels label until = record labels {
  free = if nat_lt labels.moment until then labels.free else labels.free ++ label ∷ [];
  resting = if nat_lt labels.moment until then rests_with (label, until) labels.resting else labels.resting;
}

-- A moment comes: the labels whose rest is over are the last of the free ones, in their order. An earlier one changes nothing.
abbrev pub wake : Labels → ℕ → Labels
wake labels now = record labels {
  moment = max labels.moment now;
  free = labels.free ++ keys_of (filter (λ row. nat_le row.1 now) labels.resting);
  resting = resting_past now labels.resting;
}

-- No label rests any more: those that did are the last of the free ones.
abbrev pub end_rests : Labels → Labels
end_rests labels = record labels { free = labels.free ++ keys_of labels.resting; resting = [] }

-- the labels of some places: a range's labels have places from 0 on
abbrev pub labels_at : LabelRange → List ℕ → List ℕ
labels_at range places = map (λ place. range.first + place) places

-- the labels may be given out, and there are as many places
pub record HasPlaces (range : LabelRange) (count : ℕ) : Type 0 where
  pub labels : AreLabels range
  pub places : range.first + count ≡ range.last + 1

-- the labels of places in line, each of which rests until a moment: those for which it has come are free
abbrev pub labels_by : LabelRange → ℕ → List ℕ → List ℕ → Labels
labels_by range moment untils line = record {
  range = range;
  moment = moment;
  free = labels_at range (filter (λ place. nat_le (slice_index untils place) moment) line);
  resting = map (λ place. (range.first + place, slice_index untils place)) (filter (λ place. nat_lt moment (slice_index untils place)) line);
}

-- What always holds of places in line, each with the moment until which its label rests: these moments don't fall along it,
-- and each label is in it once.
pub record AreInLine (range : LabelRange) (moment : ℕ) (places : Places) (untils : List ℕ) : Type 0 where
  pub numbered : HasPlaces range places.count
  pub each : length untils ≡ places.count
  pub rising : IsRising untils places.line
  pub known : IsLabelSpace (labels_by range moment untils places.line)
